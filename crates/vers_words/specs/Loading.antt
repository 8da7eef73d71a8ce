-- The result of the arguments of a load line: they are malformed, or well formed but not admitted, or they write something.
use Rattle.vers_words.specs.declared.loading.Loading.{Loading}
use Rattle.vers_words.specs.declared.loading.Loading.TheVariants.{Malformed, Inadmissible, Accepted}

-- the result of a load line, with what f makes of what its arguments write
abbrev pub map_loading : {X Y : Type 0} → (X → Y) → Loading X → Loading Y
map_loading f Malformed = Malformed
map_loading f Inadmissible = Inadmissible
map_loading f (Accepted written) = Accepted (f written)
