use Rattle.vers_trees.proofs.Names.{◌≡◌, FitsSigned, w64, to_z, of_z, ℤ, rules, ◌+ℤ◌, ◌∙◌, to_z-of_z, combined}
use Rattle.vers_trees.proofs.layout.Build.{same_node}
use Rattle.vers_trees.proofs.trees.bp.min_max.Node.followed_by.Goals as goal

-- a cast there and back, of each part of a sum and of the sum
sum_back : (a b : ℤ) → FitsSigned w64 a → FitsSigned w64 b → FitsSigned w64 (a +ℤ b) → to_z w64 (of_z w64 (to_z w64 (of_z w64 a) +ℤ to_z w64 (of_z w64 b))) ≡ a +ℤ b
sum_back a b f g h = rw (to_z-of_z w64 a f, to_z-of_z w64 b g) (to_z-of_z w64 (a +ℤ b) h)

pub returns : goal.returns
returns c = same_node _ (combined c.args.self c.args.next)
    (sum_back c.args.self.total c.args.next.total (search rules) (search rules) c.requires.total)
    (to_z-of_z w64 c.min.result (search rules) ∙ (rw (to_z-of_z w64 c.args.self.least (search rules), sum_back c.args.self.total c.args.next.least (search rules) (search rules) c.requires.least) at c.min.ensures.value))
    (to_z-of_z w64 c.max.result (search rules) ∙ (rw (to_z-of_z w64 c.args.self.greatest (search rules), sum_back c.args.self.total c.args.next.greatest (search rules) (search rules) c.requires.greatest) at c.max.ensures.value))
