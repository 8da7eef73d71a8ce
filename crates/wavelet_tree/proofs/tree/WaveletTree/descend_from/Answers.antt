use Rattle.wavelet_tree.proofs.Names.{◌<◌, true, false, leb, ap, subst, arith, false≢true, count_le, weight, tree_of, depth, sorted_position, access_fork_reads, Symbols, IsTreeOf, Walks, LEAVES, adds_then, within_itself}
use Rattle.wavelet_tree.proofs.Beginning.{walk_begins, bits_fit}
use Rattle.wavelet_tree.proofs.Walking.{walk_on, walk_inside, walk_ends, smaller}
use Rattle.wavelet_tree.proofs.tree.WaveletTree.descend_from.Given.{Over}
use Rattle.wavelet_tree.proofs.tree.WaveletTree.descend_from.Goals.{After-link_below-link}
use Rattle.wavelet_tree.proofs.tree.WaveletTree.descend_from.Goals as goal

pub loop-link-init : goal.loop-link-init
loop-link-init g c =
    let is = subst (λ (s : Symbols). IsTreeOf s c.self.inside.starts c.self.inside.nodes c.self.inside.bits c.self.inside.root c.self.inside.width c.self.inside.len) c.self.view_is c.self.invariant in
    walk_begins is false access_fork_reads c.args.symbol c.args.position c.args.position c.args.tally.now c.requires.occurs c.requires.within c.requires.within (λ never. absurd (false≢true never))

on : (g : Over) (c : After-link_below-link g)
    → Walks c.self.inside.starts c.self.inside.nodes c.self.inside.bits (weight (tree_of c.args.self.now) c.args.self.now.items) false access_fork_reads c.args.symbol (depth (tree_of c.args.self.now) c.args.symbol)
    (sorted_position c.args.self.now.items c.args.position c.args.symbol) (sorted_position c.args.self.now.items c.args.position c.args.symbol) c.args.tally.now c.get_and_rank1_counted-ones.new.tally
    c.link_below-link.result c.position_below-at.result c.position_below-at.result
    × (c.link_below-link.result < LEAVES → c.link_below-link.result < c.loop-link.link)
on g c =
    let is = subst (λ (s : Symbols). IsTreeOf s c.self.inside.starts c.self.inside.nodes c.self.inside.bits c.self.inside.root c.self.inside.width c.self.inside.len) c.self.view_is c.self.invariant in
    walk_on c.self.inside.starts c.self.inside.nodes c.self.inside.bits (weight (tree_of c.args.self.now) c.args.self.now.items) (bits_fit is)
    false access_fork_reads c.args.symbol _ _ _ c.args.tally.now c.loop-link-test.true c.loop-link.invariant (record {
      read = c.read-node.ensures.value;
      ranked_a = c.get_and_rank1_counted-ones.ensures.ones;
      ranked_b = c.get_and_rank1_counted-ones.ensures.ones;
      side = ap (λ n. leb n c.args.symbol) c.from.ensures;
      high_a = c.position_below-at.ensures.high;
      low_a = c.position_below-at.ensures.low;
      high_b = c.position_below-at.ensures.high;
      low_b = c.position_below-at.ensures.low;
      high_link = c.link_below-link.ensures.high;
      low_link = c.link_below-link.ensures.low;
      adds = adds_then c.read-node.ensures.adds c.get_and_rank1_counted-ones.ensures.adds (within_itself _);
    })

pub get_and_rank1_counted-ones-requires : goal.get_and_rank1_counted-ones-requires
get_and_rank1_counted-ones-requires g c =
    let is = subst (λ (s : Symbols). IsTreeOf s c.self.inside.starts c.self.inside.nodes c.self.inside.bits c.self.inside.root c.self.inside.width c.self.inside.len) c.self.view_is c.self.invariant in
    let within = walk_inside c.self.inside.starts c.self.inside.nodes c.self.inside.bits (weight (tree_of c.args.self.now) c.args.self.now.items) (bits_fit is)
    false access_fork_reads c.args.symbol _ _ _ c.args.tally.now c.loop-link-test.true c.loop-link.invariant in
    omega (arith, within.1, is.bits_are)

pub position_below-at-requires : goal.position_below-at-requires
position_below-at-requires g c = omega (arith, c.get_and_rank1_counted-ones.ensures.ones, (count_le true c.self.inside.bits c.loop-link.at).0)

pub loop-link-smaller : goal.loop-link-smaller
loop-link-smaller g c = smaller _ _ c.loop-link-test.true (on g (goal.at.loop-link-smaller g c).After-link_below-link).1

pub loop-link-preserved : goal.loop-link-preserved
loop-link-preserved g c = (on g (goal.at.loop-link-preserved g c).After-link_below-link).0

pub returns-clause-value : goal.returns-clause-value
returns-clause-value g c =
    let is = subst (λ (s : Symbols). IsTreeOf s c.self.inside.starts c.self.inside.nodes c.self.inside.bits c.self.inside.root c.self.inside.width c.self.inside.len) c.self.view_is c.self.invariant in
    (walk_ends c.self.inside.starts c.self.inside.nodes c.self.inside.bits (weight (tree_of c.args.self.now) c.args.self.now.items) (bits_fit is)
    false access_fork_reads c.args.symbol _ _ _ c.args.tally.now c.loop-link-test.false c.loop-link.invariant).a_is

pub returns-clause-adds : goal.returns-clause-adds
returns-clause-adds g c =
    let is = subst (λ (s : Symbols). IsTreeOf s c.self.inside.starts c.self.inside.nodes c.self.inside.bits c.self.inside.root c.self.inside.width c.self.inside.len) c.self.view_is c.self.invariant in
    (walk_ends c.self.inside.starts c.self.inside.nodes c.self.inside.bits (weight (tree_of c.args.self.now) c.args.self.now.items) (bits_fit is)
    false access_fork_reads c.args.symbol _ _ _ c.args.tally.now c.loop-link-test.false c.loop-link.invariant).adds
