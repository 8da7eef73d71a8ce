use Rattle.vers_trees.proofs.Names.{◌≡◌, Bool, List, IfOk-weaker, Forest, text, IsBalanced, forest_of}
use Rattle.vers_trees.proofs.layout.Building.{forest_built}
use Rattle.vers_trees.proofs.trees.bp.builder.BpBuilderTreeBuilder.build.Goals as goal

pub returns-clause-made : goal.returns-clause-made
returns-clause-made g c =
    IfOk-weaker c.build.result (λ (t : List Bool). t ≡ c.args.self) (λ (t : List Bool). (F : Forest) → text F ≡ c.args.self → IsBalanced t × (forest_of t ≡ F))
    (λ t e F h. forest_built t c.args.self F e h) c.build.ensures.made
