use Rattle.vers_trees.proofs.Names.{rules, arith, ints, w64, to_z-of_z, ◌∙◌}
use Rattle.vers_trees.proofs.searches.PartNodes.{byte_part}
use Rattle.vers_trees.proofs.trees.bp.scan.node_of_byte.Goals as goal

pub returns : goal.returns
returns c = λ l p is.
    byte_part l p c.args.byte c.forward_entry-entry.result _ is c.forward_entry-entry.ensures (to_z-of_z w64 c.byte_step.result (search rules) ∙ c.byte_step.ensures) (omega (arith, ints)) (omega (arith, ints))
