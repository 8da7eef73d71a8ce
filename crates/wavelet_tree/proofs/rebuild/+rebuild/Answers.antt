use Rattle.std.proofs.lemmas.Result.{err_from_is_err_and}
use Rattle.wavelet_tree.proofs.Names.{ℕ, ◌<◌, true, arith, count_le, lows, highs, refl, rules}
use Rattle.wavelet_tree.proofs.Splits.{Divides, split_divides, low_counts, high_counts}
use Rattle.wavelet_tree.proofs.Growing.{split_inside}
use Rattle.wavelet_tree.proofs.Rebuilding.{counts_length, rebuilt_leaf, rebuilt_fork, joined, side_bits, fork_fits, left_bits, right_bits}
use Rattle.wavelet_tree.proofs.rebuild.+rebuild.Given.{Over}
use Rattle.wavelet_tree.proofs.rebuild.+rebuild.Goals.{After-split_of-split}
use Rattle.wavelet_tree.proofs.rebuild.+rebuild.Goals as goal

divides : (g : Over) (t : ℕ) (c : After-split_of-split g t) → Divides c.args.starts.now c.args.low c.args.end c.split_of-split.result
divides g t c = rw (c.split_of-split.ensures) (split_divides c.args.starts.now c.args.low c.args.end c.requires.counts.0 c.requires.counts.1)

pub offset_bounds-starts-split : goal.offset_bounds-starts-split
offset_bounds-starts-split g t c = omega (arith, divides g t (goal.at.offset_bounds-starts-split g t c).After-split_of-split, c.requires.narrow)

pub bounds-starts-split : goal.bounds-starts-split
bounds-starts-split g t c = omega (arith, divides g t (goal.at.bounds-starts-split g t c).After-split_of-split, c.requires.counts.1.inside)

pub overflow_sub-result : goal.overflow_sub-result
overflow_sub-result g t c = omega (arith, divides g t (goal.at.overflow_sub-result g t c).After-split_of-split)

pub overflow_cast-result : goal.overflow_cast-result
overflow_cast-result g t c = omega (arith, divides g t (goal.at.overflow_cast-result g t c).After-split_of-split, c.requires.narrow)

pub overflow_add-result : goal.overflow_add-result
overflow_add-result g t c = omega (arith, divides g t (goal.at.overflow_add-result g t c).After-split_of-split, c.requires.narrow)

pub overflow_sub-result-then-starts-split : goal.overflow_sub-result-then-starts-split
overflow_sub-result-then-starts-split g t c = omega (arith, divides g t (goal.at.overflow_sub-result-then-starts-split g t c).After-split_of-split)

pub offset_bounds-starts-split-then-starts-split : goal.offset_bounds-starts-split-then-starts-split
offset_bounds-starts-split-then-starts-split g t c = omega (arith, divides g t (goal.at.offset_bounds-starts-split-then-starts-split g t c).After-split_of-split, c.requires.narrow)

pub bounds-starts-split-then-starts-split : goal.bounds-starts-split-then-starts-split
bounds-starts-split-then-starts-split g t c = omega (arith, divides g t (goal.at.bounds-starts-split-then-starts-split g t c).After-split_of-split, c.requires.counts.1.inside)

pub offset_bounds-starts-split-2 : goal.offset_bounds-starts-split-2
offset_bounds-starts-split-2 g t c = omega (arith, divides g t (goal.at.offset_bounds-starts-split-2 g t c).After-split_of-split, c.requires.narrow)

pub bounds-starts-split-2 : goal.bounds-starts-split-2
bounds-starts-split-2 g t c = omega (arith, divides g t (goal.at.bounds-starts-split-2 g t c).After-split_of-split, c.requires.counts.1.inside)

pub overflow_sub-high : goal.overflow_sub-high
overflow_sub-high g t c =
    let divided = divides g t (goal.at.overflow_sub-high g t c).After-split_of-split in
    let past : c.split_of-split.result < c.args.end = split_inside _ _ c.args.starts.now divided.within c.if-starts-split.false in
    omega (arith, counts_length _ (high_counts c.args.starts.now c.args.low c.args.end c.split_of-split.result c.requires.counts.0 c.requires.counts.1 divided past))

pub returns-then-starts-split-clause-made : goal.returns-then-starts-split-clause-made
returns-then-starts-split-clause-made g t c =
    rebuilt_leaf c.args.starts.now c.args.low c.args.end c.split_of-split.result c.requires.counts.0 c.args.nodes.now.items c.args.bits.now c.args.start
    c.requires.counts.1 c.split_of-split.ensures c.if-starts-split.true c.requires.inside

pub returns-in_default-clause-none : goal.returns-in_default-clause-none
returns-in_default-clause-none g t c = λ same xs counts has.
    let sides = side_bits c.args.starts.now c.args.low c.args.end c.split_of-split.result xs c.args.bits.now c.args.start counts c.split_of-split.ensures c.if-starts-split.false has in
    let fits = fork_fits c.args.starts.now c.args.low c.args.end c.split_of-split.result xs c.args.bits.now c.args.start _ _ counts sides refl refl in
    c.fork_end.ensures.none c.in_default.is fits.0 fits.1

pub rebuild-requires : goal.rebuild-requires
rebuild-requires g t c κs within =
    let divided = divides g t (goal.at.rebuild-requires g t c).After-split_of-split in
    let past : c.split_of-split.result < c.args.end = split_inside _ _ c.args.starts.now divided.within c.if-starts-split.false in
    let counts = low_counts c.args.starts.now c.args.low c.args.end c.split_of-split.result c.requires.counts.0 c.requires.counts.1 divided in
    (search rules, (search rules, (omega (arith, divided, c.requires.narrow), ((lows c.split_of-split.result c.requires.counts.0, counts), c.in-Some.ensures.inside))))

pub returns-in_err-left-clause-none : goal.returns-in_err-left-clause-none
returns-in_err-left-clause-none g t c =
    let p = err_from_is_err_and c.from_residual.result c.from_residual.ensures.1 in
    rw (p.1, p.2) (λ same xs counts has.
    let sides = side_bits c.args.starts.now c.args.low c.args.end c.split_of-split.result xs c.args.bits.now c.args.start counts c.split_of-split.ensures c.if-starts-split.false has in
    c.in_err-left.ensures.none same (lows c.split_of-split.result xs) (low_counts c.args.starts.now c.args.low c.args.end c.split_of-split.result xs counts sides.divides)
    (left_bits c.args.starts.now c.args.low c.args.end c.split_of-split.result xs c.args.bits.now c.args.start c.in-Some.own_end _ counts sides refl c.in-Some.ensures.end))

pub rebuild-requires-2 : goal.rebuild-requires-2
rebuild-requires-2 g t c κs within =
    let divided = divides g t (goal.at.rebuild-requires-2 g t c).After-split_of-split in
    let past : c.split_of-split.result < c.args.end = split_inside _ _ c.args.starts.now divided.within c.if-starts-split.false in
    let counts = high_counts c.args.starts.now c.args.low c.args.end c.split_of-split.result c.requires.counts.0 c.requires.counts.1 divided past in
    (search rules, (search rules, (c.requires.narrow, ((highs c.split_of-split.result c.requires.counts.0, counts), c.in_ok-left.ensures.made.within))))

pub returns-in_err-right-clause-none : goal.returns-in_err-right-clause-none
returns-in_err-right-clause-none g t c =
    let p = err_from_is_err_and c.from_residual-in_err-right.result c.from_residual-in_err-right.ensures.1 in
    rw (p.1, p.2) (λ same xs counts has.
    let sides = side_bits c.args.starts.now c.args.low c.args.end c.split_of-split.result xs c.args.bits.now c.args.start counts c.split_of-split.ensures c.if-starts-split.false has in
    c.in_err-right.ensures.none same (highs c.split_of-split.result xs) (high_counts c.args.starts.now c.args.low c.args.end c.split_of-split.result xs counts sides.divides sides.past)
    (right_bits c.args.starts.now c.args.low c.args.end c.split_of-split.result xs c.args.bits.now c.args.start c.in-Some.own_end _ counts sides refl c.in-Some.ensures.end c.in_ok-left.ensures.made))

pub overflow_sub-node : goal.overflow_sub-node
overflow_sub-node g t c = omega (arith, c.rank1-ones.ensures.value, (count_le true c.args.bits.now c.args.start).0)

pub returns-clause-made : goal.returns-clause-made
returns-clause-made g t c =
    let left = c.in_ok-left.ensures.made in
    let right = c.in_ok-right.ensures.made in
    let both = joined c.args.starts.now c.args.low c.args.end c.split_of-split.result c.args.bits.now c.args.start c.in-Some.own_end _ _ left.xs right.xs left.counts right.counts refl refl
    c.in-Some.ensures.end c.in-Some.ensures.inside c.in-Some.ensures.ones in
    let all =
    rebuilt_fork c.args.starts.now c.args.low c.args.end c.split_of-split.result both.xs c.args.nodes.now.items c.rebuild.new.nodes.items c.rebuild-2.new.nodes.items c.add_node.new.nodes.items c.args.bits.now
    c.args.start c.in-Some.own_end c.in_ok-left.left.end c.in_ok-right.right.end c.rank1-ones.result c.in_ok-left.left.link c.in_ok-right.right.link c.in_ok-left.left.entry c.in_ok-right.right.entry _
    c.split_of-split.ensures c.if-starts-split.false left right both.merges both.middle_is c.in-Some.ensures.inside c.rank1-ones.ensures.value refl refl refl refl refl
    c.in_ok-add_node.ensures.nodes c.in_ok-add_node.ensures.few in
    rw (c.in_ok-add_node.ensures.link) all
