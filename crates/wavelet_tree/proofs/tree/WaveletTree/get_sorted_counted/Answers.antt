use Rattle.wavelet_tree.proofs.Names.{◌≡◌, ◌<◌, ◌≤◌, true, refl, ◌∙◌, get_or, subst, arith, length, count_le, weight, tree_of, depth, sorted_position, Symbols, IsTreeOf, Walks, LEAVES, access_fork_reads, access_reads, adds_then, within_itself, AddsAtMost}
use Rattle.wavelet_tree.proofs.Beginning.{walk_begins, bits_fit, element_occurs}
use Rattle.wavelet_tree.proofs.Walking.{walk_on, walk_inside, walk_side, walk_ends, smaller}
use Rattle.wavelet_tree.proofs.tree.WaveletTree.get_sorted_counted.Given.{Over}
use Rattle.wavelet_tree.proofs.tree.WaveletTree.get_sorted_counted.Goals.{After-link_below-link, After-read-node, After-from}
use Rattle.wavelet_tree.proofs.tree.WaveletTree.get_sorted_counted.Goals as goal

pub loop-link-init : goal.loop-link-init
loop-link-init g c =
    let is = subst (λ (s : Symbols). IsTreeOf s c.self.inside.starts c.self.inside.nodes c.self.inside.bits c.self.inside.root c.self.inside.width c.self.inside.len) c.self.view_is c.self.invariant in
    let within : c.args.position ≤ length c.args.self.now.items = omega (arith, c.requires) in
    walk_begins is true access_fork_reads (get_or c.args.self.now.items c.args.position 0) c.args.position c.args.position c.args.tally.now (element_occurs c.args.self.now.items c.args.position c.requires) within within (λ asked. (c.requires, refl))

-- the position is among the bits
inside : (g : Over) (c : After-read-node g) → c.loop-link.at < length c.self.inside.bits
inside g c =
    let is = subst (λ (s : Symbols). IsTreeOf s c.self.inside.starts c.self.inside.nodes c.self.inside.bits c.self.inside.root c.self.inside.width c.self.inside.len) c.self.view_is c.self.invariant in
    let within = walk_inside c.self.inside.starts c.self.inside.nodes c.self.inside.bits (weight (tree_of c.args.self.now) c.args.self.now.items) (bits_fit is) true access_fork_reads (get_or c.args.self.now.items c.args.position 0) _ _ _ c.args.tally.now c.loop-link-test.true c.loop-link.invariant in
    omega (arith, within.1, is.bits_are)

on : (g : Over) (c : After-link_below-link g)
    → Walks c.self.inside.starts c.self.inside.nodes c.self.inside.bits (weight (tree_of c.args.self.now) c.args.self.now.items) true access_fork_reads (get_or c.args.self.now.items c.args.position 0) (depth (tree_of c.args.self.now) (get_or c.args.self.now.items c.args.position 0))
    (sorted_position c.args.self.now.items c.args.position (get_or c.args.self.now.items c.args.position 0)) (sorted_position c.args.self.now.items c.args.position (get_or c.args.self.now.items c.args.position 0)) c.args.tally.now c.get_and_rank1_counted-found.new.tally
    c.link_below-link.result c.position_below-at.result c.position_below-at.result
    × (c.link_below-link.result < LEAVES → c.link_below-link.result < c.loop-link.link)
on g c =
    let is = subst (λ (s : Symbols). IsTreeOf s c.self.inside.starts c.self.inside.nodes c.self.inside.bits c.self.inside.root c.self.inside.width c.self.inside.len) c.self.view_is c.self.invariant in
    let side = c.get_and_rank1_counted-found.ensures.bit ∙ walk_side c.self.inside.starts c.self.inside.nodes c.self.inside.bits (weight (tree_of c.args.self.now) c.args.self.now.items) (bits_fit is) true access_fork_reads (get_or c.args.self.now.items c.args.position 0) _ _ _ c.args.tally.now c.read-node.result c.loop-link-test.true c.loop-link.invariant refl c.read-node.ensures.value in
    walk_on c.self.inside.starts c.self.inside.nodes c.self.inside.bits (weight (tree_of c.args.self.now) c.args.self.now.items) (bits_fit is) true access_fork_reads (get_or c.args.self.now.items c.args.position 0) _ _ _ c.args.tally.now c.loop-link-test.true c.loop-link.invariant (record {
      read = c.read-node.ensures.value;
      ranked_a = c.get_and_rank1_counted-found.ensures.ones;
      ranked_b = c.get_and_rank1_counted-found.ensures.ones;
      side = side;
      high_a = c.position_below-at.ensures.high;
      low_a = c.position_below-at.ensures.low;
      high_b = c.position_below-at.ensures.high;
      low_b = c.position_below-at.ensures.low;
      high_link = c.link_below-link.ensures.high;
      low_link = c.link_below-link.ensures.low;
      adds = adds_then c.read-node.ensures.adds c.get_and_rank1_counted-found.ensures.adds (within_itself _);
    })

pub get_and_rank1_counted-found-requires : goal.get_and_rank1_counted-found-requires
get_and_rank1_counted-found-requires g c = inside g (goal.at.get_and_rank1_counted-found-requires g c).After-read-node

pub position_below-at-requires : goal.position_below-at-requires
position_below-at-requires g c = omega (arith, c.get_and_rank1_counted-found.ensures.ones, (count_le true c.self.inside.bits c.loop-link.at).0)

pub loop-link-smaller : goal.loop-link-smaller
loop-link-smaller g c = smaller _ _ c.loop-link-test.true (on g (goal.at.loop-link-smaller g c).After-link_below-link).1

pub loop-link-preserved : goal.loop-link-preserved
loop-link-preserved g c = (on g (goal.at.loop-link-preserved g c).After-link_below-link).0

-- the symbol, its position, and the reads
found : (g : Over) (c : After-from g) → (c.from.result ≡ (get_or c.args.self.now.items c.args.position 0)) × (c.loop-link.at ≡ sorted_position c.args.self.now.items c.args.position (get_or c.args.self.now.items c.args.position 0))
    × AddsAtMost c.args.tally.now c.loop-link.tally (access_reads c.args.self.now (get_or c.args.self.now.items c.args.position 0))
found g c =
    let is = subst (λ (s : Symbols). IsTreeOf s c.self.inside.starts c.self.inside.nodes c.self.inside.bits c.self.inside.root c.self.inside.width c.self.inside.len) c.self.view_is c.self.invariant in
    let ends = walk_ends c.self.inside.starts c.self.inside.nodes c.self.inside.bits (weight (tree_of c.args.self.now) c.args.self.now.items) (bits_fit is) true access_fork_reads (get_or c.args.self.now.items c.args.position 0) _ _ _ c.args.tally.now c.loop-link-test.false c.loop-link.invariant in
    (omega (arith, c.from.ensures, ends.symbol_is), ends.a_is, ends.adds)

pub returns-clause-symbol : goal.returns-clause-symbol
returns-clause-symbol g c = (found g c).0

pub returns-clause-position : goal.returns-clause-position
returns-clause-position g c = rw ((found g c).0) ((found g c).1)

pub returns-clause-adds : goal.returns-clause-adds
returns-clause-adds g c = rw ((found g c).0) ((found g c).2)
