use Rattle.std.proofs.Common.{ℕ, Option, IfSome, subst}
use Rattle.std.proofs.lemmas.List.Elements.{All-push}
use Rattle.vers_trees.specs.Forest.{forest_of}
use Rattle.vers_trees.specs.Nodes.{IsNode}
use Rattle.vers_bench.proofs.trees.nodes_asked.Goals.{in-Some+in_ok-push, in_default}
use Rattle.vers_bench.proofs.trees.nodes_asked.Goals as goal

pub loop-preserved : goal.loop-preserved
loop-preserved c =
    elim c.match-numbered.branch [
      | in-Some+in_ok-push w ↦ rw (w.nodes-is, w.in_ok-push.ensures.items)
          (All-push (λ v. IsNode (forest_of c.args.tree.now) v) c.loop.nodes.items _ c.loop.invariant
          (subst (λ (o : Option ℕ). IfSome o (λ v. IsNode (forest_of c.args.tree.now) v)) w.in-Some.is c.numbered.ensures))
      | in_default w ↦ rw w.nodes-is c.loop.invariant
    ]
