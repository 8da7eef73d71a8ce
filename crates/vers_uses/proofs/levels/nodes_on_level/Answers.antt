use Rattle.vers_vecs.proofs.TreesLaws.{walk_begins, walk_meets_nodes, walk_goes_on, walk_comes_nearer, walk_ends}
use Rattle.vers_uses.proofs.levels.nodes_on_level.Goals as goal

pub loop-next-init : goal.loop-next-init
loop-next-init g c = rw c.new-nodes.ensures.items (walk_begins c.level_leftmost-next.ensures)

pub level_next-next-requires-clause-node : goal.level_next-next-requires-clause-node
level_next-next-requires-clause-node g c = walk_meets_nodes c.loop-next.invariant c.in-Some.is

pub loop-next-smaller : goal.loop-next-smaller
loop-next-smaller g c = walk_comes_nearer c.loop-next.invariant c.in-Some.is c.in_ok-push.ensures.items

pub loop-next-preserved : goal.loop-next-preserved
loop-next-preserved g c = walk_goes_on c.loop-next.invariant c.in-Some.is c.in_ok-push.ensures.items c.level_next-next.ensures

pub returns : goal.returns
returns g c = walk_ends c.loop-next.invariant c.in_default.is
