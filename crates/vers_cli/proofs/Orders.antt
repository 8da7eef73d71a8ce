-- What a load line gives under a condition.
use Rattle.vers_cli.proofs.Names.{◌≡◌, Bool, true, false, refl, if◌then◌else◌, is_accepted, Accepted, Inadmissible}
use Rattle.vers_words.specs.Loading.{map_loading}
use Rattle.vers_words.specs.declared.loading.Loading.{Loading}
use Rattle.vers_words.specs.declared.loading.Loading.TheVariants.{Malformed}

-- it is accepted where the condition holds
pub accepted_if : {H : Type 0} (holds : Bool) (list : H) → holds ≡ is_accepted (if holds then Accepted list else Inadmissible)
accepted_if true list = refl
accepted_if false list = refl

-- it is accepted if its list is
pub accepted_mapped : {H K : Type 0} (f : H → K) (loading : Loading H) → is_accepted loading ≡ is_accepted (map_loading f loading)
accepted_mapped f Malformed = refl
accepted_mapped f Inadmissible = refl
accepted_mapped f (Accepted list) = refl
