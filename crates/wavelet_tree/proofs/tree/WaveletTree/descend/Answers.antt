use Rattle.wavelet_tree.proofs.Names.{◌<◌, ◌^◌, true, false, leb, ap, subst, arith, rules, false≢true, count_le, weight, tree_of, depth, sorted_position, fork_reads, Symbols, IsTreeOf, Walks, LEAVES, adds_then, within_itself, length}
use Rattle.wavelet_tree.proofs.Beginning.{walk_begins, bits_fit}
use Rattle.wavelet_tree.proofs.Walking.{walk_on, walk_inside, walk_ends, smaller}
use Rattle.wavelet_tree.proofs.tree.WaveletTree.descend.Given.{Over}
use Rattle.wavelet_tree.proofs.tree.WaveletTree.descend.Goals.{After-link_below-link, After-read-node}
use Rattle.wavelet_tree.proofs.tree.WaveletTree.descend.Goals as goal

pub loop-link-init : goal.loop-link-init
loop-link-init g c =
    let is = subst (λ (s : Symbols). IsTreeOf s c.self.inside.starts c.self.inside.nodes c.self.inside.bits c.self.inside.root c.self.inside.width c.self.inside.len) c.self.view_is c.self.invariant in
    walk_begins is false fork_reads c.args.symbol c.args.start c.args.end c.args.tally.now c.requires.occurs c.requires.start c.requires.end (λ never. absurd (false≢true never))

-- the positions are among the bits
inside : (g : Over) (c : After-read-node g) → (c.loop-link.from < length c.self.inside.bits) × (c.loop-link.to < length c.self.inside.bits) × (weight (tree_of c.args.self.now) c.args.self.now.items < 2 ^ 64)
inside g c =
    let is = subst (λ (s : Symbols). IsTreeOf s c.self.inside.starts c.self.inside.nodes c.self.inside.bits c.self.inside.root c.self.inside.width c.self.inside.len) c.self.view_is c.self.invariant in
    let within = walk_inside c.self.inside.starts c.self.inside.nodes c.self.inside.bits (weight (tree_of c.args.self.now) c.args.self.now.items) (omega (arith, is.bits_are, is.fits))
    false fork_reads c.args.symbol _ _ _ c.args.tally.now c.loop-link-test.true c.loop-link.invariant in
    (omega (arith, within.1, is.bits_are), omega (arith, within.2, is.bits_are), omega (arith, is.bits_are, is.fits))

on : (g : Over) (c : After-link_below-link g)
    → Walks c.self.inside.starts c.self.inside.nodes c.self.inside.bits (weight (tree_of c.args.self.now) c.args.self.now.items) false fork_reads c.args.symbol (depth (tree_of c.args.self.now) c.args.symbol)
    (sorted_position c.args.self.now.items c.args.start c.args.symbol) (sorted_position c.args.self.now.items c.args.end c.args.symbol) c.args.tally.now c.get_and_rank1_counted-to_ones.new.tally
    c.link_below-link.result c.position_below-from.result c.position_below-to.result
    × (c.link_below-link.result < LEAVES → c.link_below-link.result < c.loop-link.link)
on g c =
    let is = subst (λ (s : Symbols). IsTreeOf s c.self.inside.starts c.self.inside.nodes c.self.inside.bits c.self.inside.root c.self.inside.width c.self.inside.len) c.self.view_is c.self.invariant in
    walk_on c.self.inside.starts c.self.inside.nodes c.self.inside.bits (weight (tree_of c.args.self.now) c.args.self.now.items) (bits_fit is)
    false fork_reads c.args.symbol _ _ _ c.args.tally.now c.loop-link-test.true c.loop-link.invariant (record {
      read = c.read-node.ensures.value;
      ranked_a = c.get_and_rank1_counted-from_ones.ensures.ones;
      ranked_b = c.get_and_rank1_counted-to_ones.ensures.ones;
      side = ap (λ n. leb n c.args.symbol) c.from.ensures;
      high_a = c.position_below-from.ensures.high;
      low_a = c.position_below-from.ensures.low;
      high_b = c.position_below-to.ensures.high;
      low_b = c.position_below-to.ensures.low;
      high_link = c.link_below-link.ensures.high;
      low_link = c.link_below-link.ensures.low;
      adds = adds_then (adds_then c.read-node.ensures.adds c.get_and_rank1_counted-from_ones.ensures.adds (within_itself _)) c.get_and_rank1_counted-to_ones.ensures.adds (search rules);
    })

pub get_and_rank1_counted-from_ones-requires : goal.get_and_rank1_counted-from_ones-requires
get_and_rank1_counted-from_ones-requires g c = (inside g (goal.at.get_and_rank1_counted-from_ones-requires g c).After-read-node).0

pub get_and_rank1_counted-to_ones-requires : goal.get_and_rank1_counted-to_ones-requires
get_and_rank1_counted-to_ones-requires g c = (inside g (goal.at.get_and_rank1_counted-to_ones-requires g c).After-read-node).1

pub position_below-from-requires : goal.position_below-from-requires
position_below-from-requires g c = omega (arith, c.get_and_rank1_counted-from_ones.ensures.ones, (count_le true c.self.inside.bits c.loop-link.from).0)

pub position_below-to-requires : goal.position_below-to-requires
position_below-to-requires g c = omega (arith, c.get_and_rank1_counted-to_ones.ensures.ones, (count_le true c.self.inside.bits c.loop-link.to).0)

pub loop-link-smaller : goal.loop-link-smaller
loop-link-smaller g c = smaller _ _ c.loop-link-test.true (on g (goal.at.loop-link-smaller g c).After-link_below-link).1

pub loop-link-preserved : goal.loop-link-preserved
loop-link-preserved g c = (on g (goal.at.loop-link-preserved g c).After-link_below-link).0

pub returns-clause-start : goal.returns-clause-start
returns-clause-start g c =
    let is = subst (λ (s : Symbols). IsTreeOf s c.self.inside.starts c.self.inside.nodes c.self.inside.bits c.self.inside.root c.self.inside.width c.self.inside.len) c.self.view_is c.self.invariant in
    (walk_ends c.self.inside.starts c.self.inside.nodes c.self.inside.bits (weight (tree_of c.args.self.now) c.args.self.now.items) (bits_fit is)
    false fork_reads c.args.symbol _ _ _ c.args.tally.now c.loop-link-test.false c.loop-link.invariant).a_is

pub returns-clause-end : goal.returns-clause-end
returns-clause-end g c =
    let is = subst (λ (s : Symbols). IsTreeOf s c.self.inside.starts c.self.inside.nodes c.self.inside.bits c.self.inside.root c.self.inside.width c.self.inside.len) c.self.view_is c.self.invariant in
    (walk_ends c.self.inside.starts c.self.inside.nodes c.self.inside.bits (weight (tree_of c.args.self.now) c.args.self.now.items) (bits_fit is)
    false fork_reads c.args.symbol _ _ _ c.args.tally.now c.loop-link-test.false c.loop-link.invariant).b_is

pub returns-clause-adds : goal.returns-clause-adds
returns-clause-adds g c =
    let is = subst (λ (s : Symbols). IsTreeOf s c.self.inside.starts c.self.inside.nodes c.self.inside.bits c.self.inside.root c.self.inside.width c.self.inside.len) c.self.view_is c.self.invariant in
    (walk_ends c.self.inside.starts c.self.inside.nodes c.self.inside.bits (weight (tree_of c.args.self.now) c.args.self.now.items) (bits_fit is)
    false fork_reads c.args.symbol _ _ _ c.args.tally.now c.loop-link-test.false c.loop-link.invariant).adds
