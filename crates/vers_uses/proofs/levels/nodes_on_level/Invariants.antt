use Rattle.std.proofs.Common.{◌-◌, length}
use Rattle.vers_vecs.specs.LevelWalks.{IsAlongLevel}
use Rattle.vers_vecs.specs.Nodes.{level}
use Rattle.vers_uses.proofs.levels.nodes_on_level.Given as goal

abbrev pub invariant-loop-next : goal.invariant-loop-next
invariant-loop-next g l = IsAlongLevel (g.T.Tree.position l.tree) (g.T.Tree.forest l.tree) l.depth l.nodes.items l.next

abbrev pub decreases-loop-next : goal.decreases-loop-next
decreases-loop-next g l = length (level (g.T.Tree.forest l.tree) l.depth) - length l.nodes.items
