-- What contracts of makers and of growth over iterators state.
use Rattle.std.specs.Prelude.{List, Option, Some}
use Rattle.std.specs.Iterator.{YieldsThen}

-- an iterator yielded the elements xs and then an element x, and P is true of them
abbrev pub StopsAt : {S A : Type 0} → (S → Option A → S → Type 0) → S → (List A → A → Type 0) → Type 0
StopsAt {S} {A} steps s P = (xs : List A) × (x : A) × (t : S) × YieldsThen steps s xs (Some x) t × P xs x
