-- What an iterator gives that takes the first of what it has left.
use Rattle.vers_cli.proofs.Names.{◌≡◌, ℕ, List, Result, Ok, Err, IfOk, refl, sym, ap, ◌∙◌, YieldsList-from_first, map-id}
use Rattle.std.specs.Iterator.{Drains, YieldsFirst}
use Rattle.std.proofs.lemmas.Iterator.{items_from_drains}

-- all that it has left
pub items_left : {S : Type 0} {w : S} (s : S) (rest : S → List ℕ) (xs : List ℕ) → Drains (YieldsFirst rest) s xs → s ≡ w → xs ≡ rest w
items_left s rest xs d same =
    sym (map-id xs) ∙ items_from_drains xs (d.1.0, d.1.1, λ u. (d.0, d.1.2)) (YieldsList-from_first (λ x. x) rest (rest s) refl) ∙ ap rest same

-- the same, where there may be no memory for it
pub items_gathered : {S V E : Type 0} {w : S} (s : S) (rest : S → List ℕ) (items : V → List ℕ) (r : Result V E) (xs : List ℕ)
    → IfOk r (λ v. Drains (YieldsFirst rest) s (items v)) → s ≡ w → rest w ≡ xs → IfOk r (λ v. items v ≡ xs)
items_gathered s rest items (Ok v) xs d same all = items_left s rest (items v) d same ∙ all
items_gathered s rest items (Err e) xs d same all = tt
