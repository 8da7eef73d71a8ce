use Rattle.wavelet_tree.proofs.Names.{◌≡◌, ◌+◌, ◌/◌, ◌^◌, eqb, not, arith, byte_value, length}
use Rattle.std.specs.Prelude.{bit_and}
use Rattle.wavelet_tree.proofs.Reading.{Comes, comes_next, merged_more}
use Rattle.wavelet_tree.proofs.read.merge.Given.{Over}
use Rattle.wavelet_tree.proofs.read.merge.Goals.{After-source}
use Rattle.wavelet_tree.proofs.read.merge.Goals as goal

-- the next element
next : (g : Over) (c : After-source g)
    → Comes c.args.bits.now c.args.start c.args.low_len (length c.args.merged.now) (c.loop-position.position + c.loop-k.k) c.loop-k.low c.loop-k.high (eqb (bit_and (c.get_bits_unchecked-word.result / 2 ^ c.loop-k.k) 1) 1)
next g c =
    comes_next c.args.bits.now c.args.start c.args.low_len (length c.args.merged.now) c.loop-position.position c.min-many.result c.loop-k.k c.loop-k.low c.loop-k.high c.get_bits_unchecked-word.result
    c.requires.within c.requires.ones (omega arith) c.loop-k-test.true c.get_bits_unchecked-word.ensures c.loop-k.invariant.next

pub offset_bounds-parts-source : goal.offset_bounds-parts-source
offset_bounds-parts-source g c = omega (arith, next g (goal.at.offset_bounds-parts-source g c).After-source, c.source.ensures, c.requires.long)

pub bounds-parts-source : goal.bounds-parts-source
bounds-parts-source g c = omega (arith, next g (goal.at.bounds-parts-source g c).After-source, c.source.ensures, c.requires.long)

pub overflow_add-high : goal.overflow_add-high
overflow_add-high g c =
    let is = next g (goal.at.overflow_add-high g c).After-source in
    omega (arith, is.high_within, c.from-high.ensures, byte_value (eqb (bit_and (c.get_bits_unchecked-word.result / 2 ^ c.loop-k.k) 1) 1), c.requires.within, c.requires.fits)

pub overflow_add-low : goal.overflow_add-low
overflow_add-low g c =
    let is = next g (goal.at.overflow_add-low g c).After-source in
    omega (arith, is.low_within, c.from-low.ensures, byte_value (not (eqb (bit_and (c.get_bits_unchecked-word.result / 2 ^ c.loop-k.k) 1) 1)), c.requires.within, c.requires.fits)

pub loop-k-preserved : goal.loop-k-preserved
loop-k-preserved g c =
    let is = next g (goal.at.loop-k-preserved g c).After-source in
    let bit = eqb (bit_and (c.get_bits_unchecked-word.result / 2 ^ c.loop-k.k) 1) 1 in
    let more : c.loop-position.position + (c.loop-k.k + 1) ≡ c.loop-position.position + c.loop-k.k + 1 = omega arith in
    record {
      merges = rw more
          (merged_more c.args.bits.now c.args.start c.args.low_len (length c.args.merged.now) c.args.parts.now c.loop-k.merged (c.loop-position.position + c.loop-k.k) c.loop-k.low c.loop-k.high c.source.result bit c.index-parts-source.result
          (omega arith) c.requires.long c.loop-k.invariant.next is c.source.ensures c.index-parts-source.is c.loop-k.invariant.merges);
      next = rw (more, c.from-low.ensures, c.from-high.ensures, byte_value (not bit), byte_value bit) is.after;
    }
