use Rattle.wavelet_tree.proofs.Names.{◌≡◌, ℕ, ◌-◌, ◌<◌, ◌∙◌, true, ap, sym, subst, arith, map, length, count_le, lows, highs, refl, List, Node, rules, CountsWithin, Grows, shift}
use Rattle.wavelet_tree.proofs.Splits.{Divides, split_divides, low_counts, high_counts}
use Rattle.wavelet_tree.proofs.Growing.{grown_leaf, grown_fork, split_inside}
use Rattle.wavelet_tree.proofs.grow.+grow.Given.{Over}
use Rattle.wavelet_tree.proofs.grow.+grow.Goals.{After-split_of-split, After-split_at_mut-low_items}
use Rattle.wavelet_tree.proofs.grow.+grow.Goals as goal

divides : (g : Over) (t : ℕ) (c : After-split_of-split g t) → Divides c.args.starts.now c.args.low c.args.end c.split_of-split.result
divides g t c = rw (c.split_of-split.ensures) (split_divides c.args.starts.now c.args.low c.args.end (map g.T.Integer.value c.args.items.now) c.requires.counts)

pub offset_bounds-starts-split : goal.offset_bounds-starts-split
offset_bounds-starts-split g t c = omega (arith, divides g t (goal.at.offset_bounds-starts-split g t c).After-split_of-split, c.requires.narrow)

pub bounds-starts-split : goal.bounds-starts-split
bounds-starts-split g t c = omega (arith, divides g t (goal.at.bounds-starts-split g t c).After-split_of-split, c.requires.counts.inside)

pub overflow_sub-result : goal.overflow_sub-result
overflow_sub-result g t c = omega (arith, divides g t (goal.at.overflow_sub-result g t c).After-split_of-split)

pub overflow_cast-result : goal.overflow_cast-result
overflow_cast-result g t c = omega (arith, divides g t (goal.at.overflow_cast-result g t c).After-split_of-split, c.requires.narrow)

pub overflow_add-result : goal.overflow_add-result
overflow_add-result g t c = omega (arith, divides g t (goal.at.overflow_add-result g t c).After-split_of-split, c.requires.narrow)

pub overflow_sub-result-then-starts-split : goal.overflow_sub-result-then-starts-split
overflow_sub-result-then-starts-split g t c = omega (arith, divides g t (goal.at.overflow_sub-result-then-starts-split g t c).After-split_of-split)

pub offset_bounds-starts-split-then-starts-split : goal.offset_bounds-starts-split-then-starts-split
offset_bounds-starts-split-then-starts-split g t c = omega (arith, divides g t (goal.at.offset_bounds-starts-split-then-starts-split g t c).After-split_of-split, c.requires.narrow)

pub bounds-starts-split-then-starts-split : goal.bounds-starts-split-then-starts-split
bounds-starts-split-then-starts-split g t c = omega (arith, divides g t (goal.at.bounds-starts-split-then-starts-split g t c).After-split_of-split, c.requires.counts.inside)

pub returns-then-starts-split : goal.returns-then-starts-split
returns-then-starts-split g t c =
    grown_leaf c.args.starts.now c.args.low c.args.end c.split_of-split.result (map g.T.Integer.value c.args.items.now) c.args.grown.now.nodes.items c.args.grown.now.bits c.args.grown.now.ones
    c.requires.counts c.split_of-split.ensures c.if-starts-split.true c.requires.ones

-- the elements of both sides
low_items : (g : Over) (t : ℕ) (c : After-split_at_mut-low_items g t) → map g.T.Integer.value c.split_at_mut-low_items.result.0.now ≡ lows c.split_of-split.result (map g.T.Integer.value c.args.items.now)
low_items g t c = ap (λ l. map g.T.Integer.value l) c.split_at_mut-low_items.ensures.front ∙ c.in_ok-low_len.ensures.lows

high_items : (g : Over) (t : ℕ) (c : After-split_at_mut-low_items g t) → map g.T.Integer.value c.split_at_mut-low_items.result.1.now ≡ highs c.split_of-split.result (map g.T.Integer.value c.args.items.now)
high_items g t c = ap (λ l. map g.T.Integer.value l) c.split_at_mut-low_items.ensures.back ∙ c.in_ok-low_len.ensures.highs

pub grow-requires : goal.grow-requires
grow-requires g t c κs within =
    let at = goal.at.grow-requires g t c in
    let f = g.T.Integer.value in
    let xs = map f c.args.items.now in
    let divided = divides g t at.After-split_of-split in
    let counts = low_counts c.args.starts.now c.args.low c.args.end c.split_of-split.result xs c.requires.counts divided in
    (search rules, (search rules, (search rules, (omega (arith, divided, c.requires.narrow), (subst (λ (l : List ℕ). CountsWithin c.args.starts.now c.args.low c.split_of-split.result l) (sym (low_items g t at.After-split_at_mut-low_items)) counts, (search rules, c.in_ok-low_len.ensures.ones))))))

pub grow-requires-2 : goal.grow-requires-2
grow-requires-2 g t c κs within =
    let at = goal.at.grow-requires-2 g t c in
    let f = g.T.Integer.value in
    let xs = map f c.args.items.now in
    let divided = divides g t at.After-split_of-split in
    let past : c.split_of-split.result < c.args.end = split_inside _ _ c.args.starts.now divided.within c.if-starts-split.false in
    let counts = high_counts c.args.starts.now c.args.low c.args.end c.split_of-split.result xs c.requires.counts divided past in
    (search rules, (search rules, (search rules, (c.requires.narrow, (subst (λ (l : List ℕ). CountsWithin c.args.starts.now c.split_of-split.result c.args.end l) (sym (high_items g t at.After-split_at_mut-low_items)) counts, (search rules, c.in_ok-left.ensures.ones_are))))))

pub overflow_sub-node : goal.overflow_sub-node
overflow_sub-node g t c = omega (arith, c.requires.ones, (count_le true c.args.grown.now.bits (length c.args.grown.now.bits)).0, c.len-start.ensures.value)

pub overflow_cast-node : goal.overflow_cast-node
overflow_cast-node g t c = omega (arith, divides g t (goal.at.overflow_cast-node g t c).After-split_of-split, c.requires.narrow)

pub returns : goal.returns
returns g t c =
    let f = g.T.Integer.value in
    let xs = map f c.args.items.now in
    let at = goal.at.returns g t c in
    let nodes : List Node = c.args.grown.now.nodes.items in
    let same : c.divide.new.grown.nodes.items ≡ nodes = ap (λ v. v.items) c.in_ok-low_len.ensures.nodes in
    let left = subst (λ (l : List Node). Grows c.args.starts.now c.args.low c.split_of-split.result (lows c.split_of-split.result xs) l c.grow.new.grown.nodes.items c.divide.new.grown.bits c.grow.new.grown.bits c.grow.new.grown.ones c.in_ok-left.left.link c.in_ok-left.left.entry) same
    (subst (λ (l : List ℕ). Grows c.args.starts.now c.args.low c.split_of-split.result l c.divide.new.grown.nodes.items c.grow.new.grown.nodes.items c.divide.new.grown.bits c.grow.new.grown.bits c.grow.new.grown.ones c.in_ok-left.left.link c.in_ok-left.left.entry)
    (low_items g t at.After-split_at_mut-low_items) c.in_ok-left.ensures) in
    let right = subst (λ (l : List ℕ). Grows c.args.starts.now c.split_of-split.result c.args.end l c.grow.new.grown.nodes.items c.grow-2.new.grown.nodes.items c.grow.new.grown.bits c.grow-2.new.grown.bits c.grow-2.new.grown.ones c.in_ok-right.right.link c.in_ok-right.right.entry)
    (high_items g t at.After-split_at_mut-low_items) c.in_ok-right.ensures in
    let start : length c.args.grown.now.bits ≡ c.len-start.result = sym c.len-start.ensures.value in
    let all =
    grown_fork c.args.starts.now c.args.low c.args.end c.split_of-split.result xs nodes c.grow.new.grown.nodes.items c.grow-2.new.grown.nodes.items c.add_node.new.nodes.items
    c.args.grown.now.bits c.divide.new.grown.bits c.grow.new.grown.bits c.grow-2.new.grown.bits c.args.grown.now.ones c.grow.new.grown.ones c.grow-2.new.grown.ones
    c.in_ok-left.left.link c.in_ok-right.right.link c.in_ok-left.left.entry c.in_ok-right.right.entry _
    c.requires.counts c.split_of-split.ensures c.if-starts-split.false c.requires.ones c.in_ok-low_len.ensures.bits left right
    (ap (λ n. shift c.in_ok-left.left.entry (n - c.args.grown.now.ones)) (sym start)) refl refl refl refl c.in_ok-link.ensures.nodes c.in_ok-link.ensures.few in
    rw (c.in_ok-link.ensures.link, c.len-start.ensures.value) all
