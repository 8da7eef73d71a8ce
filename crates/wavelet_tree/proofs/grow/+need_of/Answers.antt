use Rattle.wavelet_tree.proofs.Names.{ℕ, rules, arith, lows, highs}
use Rattle.wavelet_tree.proofs.Splits.{Divides, split_divides, low_counts, high_counts}
use Rattle.wavelet_tree.proofs.Growing.{split_inside}
use Rattle.wavelet_tree.proofs.grow.+need_of.Goals.{After-split_of-split}
use Rattle.wavelet_tree.proofs.grow.+need_of.Goals as goal

divides : (t : ℕ) (c : After-split_of-split t) → Divides c.args.starts.now c.args.low c.args.end c.split_of-split.result
divides t c = rw (c.split_of-split.ensures) (split_divides c.args.starts.now c.args.low c.args.end c.requires.counts.0 c.requires.counts.1)

pub offset_bounds-starts-split : goal.offset_bounds-starts-split
offset_bounds-starts-split t c = omega (arith, divides t (goal.at.offset_bounds-starts-split t c).After-split_of-split, c.requires.narrow)

pub bounds-starts-split : goal.bounds-starts-split
bounds-starts-split t c = omega (arith, divides t (goal.at.bounds-starts-split t c).After-split_of-split, c.requires.counts.1.inside)

pub need_of-left-requires : goal.need_of-left-requires
need_of-left-requires t c =
    let divided = divides t (goal.at.need_of-left-requires t c).After-split_of-split in
    (search rules, (omega (arith, divided, c.requires.narrow), (lows c.split_of-split.result c.requires.counts.0, low_counts c.args.starts.now c.args.low c.args.end c.split_of-split.result c.requires.counts.0 c.requires.counts.1 divided)))

pub need_of-right-requires : goal.need_of-right-requires
need_of-right-requires t c =
    let divided = divides t (goal.at.need_of-right-requires t c).After-split_of-split in (
      search rules,
      (
        c.requires.narrow,
        (
          highs c.split_of-split.result c.requires.counts.0,
          high_counts c.args.starts.now c.args.low c.args.end c.split_of-split.result c.requires.counts.0 c.requires.counts.1 divided (split_inside c.split_of-split.result c.args.end c.args.starts.now divided.within c.if-starts-split.false),
        ),
      ),
    )
