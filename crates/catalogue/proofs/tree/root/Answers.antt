use Rattle.std.proofs.Common.{◌≡◌, ◌≢◌, ℕ, Bool, List, [], ◌∷◌, refl}
use Rattle.std.specs.Prelude.{Option, None, Some}
use Rattle.catalogue.specs.TreeAnswers.{first_position}
use Rattle.catalogue.proofs.tree.root.Goals as goal

first_is : (bits : List Bool) (found : Option ℕ) → (bits ≡ [] → found ≡ None) → (bits ≢ [] → found ≡ Some 0) → found ≡ first_position bits
first_is [] found none some = none refl
first_is (bit ∷ bits) found none some = some (λ is. cc)

pub returns : goal.returns
returns g c = first_is c.args.tree.now c.root.result c.root.ensures.none c.root.ensures.some
