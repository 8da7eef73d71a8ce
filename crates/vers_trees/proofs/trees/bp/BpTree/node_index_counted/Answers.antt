use Rattle.vers_trees.proofs.Names.{Bool, true, List, sym, ap, ◌∙◌, count}
use Rattle.vers_trees.proofs.kin.Kin.{index_is_rank}
use Rattle.vers_trees.proofs.trees.bp.BpTree.node_index_counted.Goals as goal

pub returns-clause-value : goal.returns-clause-value
returns-clause-value g c = c.rank1_counted.ensures.value ∙ ap (λ (l : List Bool). count true l c.args.node) c.self.view_is ∙ sym (index_is_rank c.args.self.now c.requires.balanced c.args.node)
