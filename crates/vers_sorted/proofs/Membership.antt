-- Whether a number is an element of a list.
use Rattle.vers_sorted.proofs.Names.{◌≡◌, ℕ, ◌<◌, true, false, List, [], ◌∷◌, ◌++◌, length, get_or, refl, ap, ◌∙◌, arith, eqb, eq-eqb, eqb-true, ne_eqb, get_or_default, is_element, rules}
use Rattle.std.specs.Prelude.{◌||◌}
use Rattle.std.proofs.Math.Bool.{or-false}
use Rattle.std.proofs.lemmas.List.Folds.{list_any-from_Any, Any-from_list_any, list_any_none, list_any-append}

pub element_at : (s : List ℕ) (v k : ℕ) → k < length s → get_or s k 0 ≡ v → is_element s v ≡ true
unfolding is_element
element_at s v k h e = search (rules, list_any-from_Any, get_or_default, eq-eqb)

pub not_element : (s : List ℕ) (v : ℕ) → ((k : ℕ) → k < length s → get_or s k 0 ≡ v → ⊥) → is_element s v ≡ false
unfolding is_element
not_element s v none =
    list_any_none (λ q. eqb q v) s (λ k d h. grind (arith, ne_eqb, get_or_default))

pub element_position : (s : List ℕ) (v : ℕ) → is_element s v ≡ true → (k : ℕ) × (k < length s) × (get_or s k 0 ≡ v)
unfolding is_element
element_position s v on = grind (arith, Any-from_list_any, get_or_default, eqb-true)

-- ---- by the first element, and by the last

pub element_none : (v : ℕ) → is_element [] v ≡ false
unfolding is_element
element_none v = refl

pub element_head : (n : ℕ) (s : List ℕ) (v : ℕ) → n ≡ v → is_element (n ∷ s) v ≡ true
unfolding is_element
element_head n s v same = rw (eq-eqb n v same) refl

pub element_tail : (n : ℕ) (s : List ℕ) (v : ℕ) → (n ≡ v → ⊥) → is_element (n ∷ s) v ≡ is_element s v
unfolding is_element
element_tail n s v apart = rw (ne_eqb n v apart) refl

pub element_more : (s : List ℕ) (n v : ℕ) → is_element (s ++ n ∷ []) v ≡ is_element s v || eqb n v
unfolding is_element
element_more s n v = list_any-append (λ q. eqb q v) s (n ∷ []) ∙ ap (λ b. is_element s v || b) (or-false (eqb n v))
