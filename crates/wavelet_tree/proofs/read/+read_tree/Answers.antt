use Rattle.wavelet_tree.proofs.Names.{◌≡◌, ℕ, ◌+◌, ◌-◌, ◌^◌, ◌∙◌, ◌++◌, Bool, ap, sym, subst, arith, map, length, length-map, refl, rules, List, no_node, get_or}
use Rattle.wavelet_tree.specs.inside.Reading.{Merges, own_ones}
use Rattle.wavelet_tree.proofs.Reading.{Forks, forks_at, goes_down, left_stores, right_stores, leaf_read, fork_read, own_less}
use Rattle.wavelet_tree.proofs.read.+read_tree.Given.{Over}
use Rattle.wavelet_tree.proofs.read.+read_tree.Goals.{After-split_at_mut-low_scratch}
use Rattle.wavelet_tree.proofs.read.+read_tree.Goals as goal

pub returns-then-link-ge-LEAVES : goal.returns-then-link-ge-LEAVES
returns-then-link-ge-LEAVES g t c =
    leaf_read c.args.nodes.now c.args.bits.now c.args.link c.args.start (length c.args.items.now) _ c.if-link-ge-LEAVES.true (rw (← c.from.ensures) c.write_symbol.ensures)
    (length-map c.write_symbol.new.items g.T.Integer.value ∙ c.write_symbol.auto.items)

-- both sides of the fork
sides : (g : Over) (t : ℕ) (c : After-split_at_mut-low_scratch g t) → Forks c.args.nodes.now c.args.bits.now c.args.link c.args.start (length c.args.items.now) (2 ^ g.T.Integer.bits) (get_or c.args.nodes.now c.args.link no_node)
sides g t c = forks_at c.args.nodes.now c.args.bits.now c.args.link c.args.start (length c.args.items.now) (2 ^ g.T.Integer.bits) _ c.requires.stored c.if-link-ge-LEAVES.false refl

low_len : (g : Over) (t : ℕ) (c : After-split_at_mut-low_scratch g t) → length c.split_at_mut-low_scratch.result.0.now + own_ones c.args.bits.now c.args.start (length c.args.items.now) ≡ length c.args.items.now
low_len g t c =
    omega (arith, own_less c.args.bits.now c.args.start (length c.args.items.now), c.rank1.ensures.value, c.rank1-2.ensures.value, c.split_at_mut-low_scratch.ensures.front_len)

pub read_tree-low_end-requires : goal.read_tree-low_end-requires
read_tree-low_end-requires g t c κs within =
    let at = (goal.at.read_tree-low_end-requires g t c).After-split_at_mut-low_scratch in
    let both = sides g t at in
    let down = goes_down _ _ c.if-link-ge-LEAVES.false both.stored.low_down in
    (omega (arith, down), (search rules, (search rules, (left_stores c.args.nodes.now c.args.bits.now c.args.link c.args.start (length c.args.items.now) _ (length c.split_at_mut-low_scratch.result.0.now) _ _ both (low_len g t at) refl, omega (arith, c.split_at_mut-low_items.ensures.front_len, c.split_at_mut-low_scratch.ensures.front_len)))))

pub read_tree-high_end-requires : goal.read_tree-high_end-requires
read_tree-high_end-requires g t c κs within =
    let at = (goal.at.read_tree-high_end-requires g t c).After-split_at_mut-low_scratch in
    let both = sides g t at in
    let down = goes_down _ _ c.if-link-ge-LEAVES.false both.stored.high_down in
    let long : length (map g.T.Integer.value c.read_tree-low_end.new.items) ≡ length c.split_at_mut-low_scratch.result.0.now = length-map c.read_tree-low_end.new.items g.T.Integer.value ∙ c.read_tree-low_end.auto.items in (
      omega (arith, down),
      (
        search rules,
        (
          search rules,
          (
            right_stores c.args.nodes.now c.args.bits.now c.args.link c.args.start (length c.args.items.now) _ (length c.split_at_mut-low_scratch.result.0.now) (length c.split_at_mut-low_scratch.result.1.now) _ _ _ _ both (low_len g t at) (omega (arith, low_len g t at, c.requires.room, c.split_at_mut-low_scratch.ensures.front_len, c.split_at_mut-low_scratch.ensures.back_len)) refl c.read_tree-low_end.ensures long,
            omega (arith, c.requires.room, c.split_at_mut-low_items.ensures.front_len, c.split_at_mut-low_scratch.ensures.front_len, c.split_at_mut-low_items.ensures.back_len, c.split_at_mut-low_scratch.ensures.back_len),
          ),
        ),
      ),
    )

pub returns : goal.returns
returns g t c =
    let at = (goal.at.returns g t c).After-split_at_mut-low_scratch in
    let lefts = c.read_tree-low_end.new.items in
    let rights = c.read_tree-high_end.new.items in
    let merged = c.merge.new.merged in
    let low : length lefts ≡ length c.split_at_mut-low_scratch.result.0.now = c.read_tree-low_end.auto.items in
    let high : length rights ≡ length c.split_at_mut-low_scratch.result.1.now = c.read_tree-high_end.auto.items in
    let long : length merged ≡ length c.args.items.now = omega (arith, c.merge.auto.merged) in
    let low_is = low_len g t at in
    fork_read g.T.Integer.value c.args.nodes.now c.args.bits.now c.args.link c.args.start (c.args.start + length c.args.items.now) (length c.args.items.now - (c.rank1.result - c.rank1-2.result)) c.read_tree-low_end.result
    c.read_tree-high_end.result _ lefts rights merged c.if-link-ge-LEAVES.false refl (ap (λ n. c.args.start + n) (sym long)) (omega (arith, low, c.split_at_mut-low_scratch.ensures.front_len))
    (rw long (omega (arith, low_is, c.split_at_mut-low_scratch.ensures.front_len))) (omega (arith, low, high, long, c.split_at_mut-low_scratch.ensures.front_len, c.split_at_mut-low_scratch.ensures.back_len, c.requires.room))
    c.read_tree-low_end.ensures c.read_tree-high_end.ensures
    (subst (λ (l : List Bool). Merges l c.args.start (length c.args.items.now - (c.rank1.result - c.rank1-2.result)) (lefts ++ rights) merged (length merged)) c.bits.ensures c.merge.ensures)
