-- The bits whose ones are at given positions: their counts, their positions, and how they come about.
use Rattle.vers_sorted.proofs.Names.{◌≡◌, ℕ, zero, suc, ◌+◌, ◌-◌, ◌<◌, ◌≤◌, Bool, true, false, ◌⊎◌, List, [], ◌∷◌, ◌++◌, length, get_or, refl, sym, ap, ◌∙◌, arith, inl, inr, set, slice_index, map, IsNonDecreasing, IsStrictlyIncreasing, cases_lt, cases_Bool, same_number_lists, same_lists, get_or-set_same, get_or-set_other, length-set, get_or-map, length-map, length-map-range_with_len, map-id, get_or-map-range_with_len, get_or_default, is_bit, count, positions, count_none, count_up, count_more_yes, count_more_no, select_at, length-positions, select_is_position, select_up, IsPosition, below, is_element, nat_tests, select, ones_at}
use Rattle.std.proofs.lemmas.List.Kept.{AllPairs-from_increasing}
use Rattle.vers_sorted.proofs.Below.{below_le, below_at, below_before, below_after, none_below, all_below}
use Rattle.vers_sorted.proofs.Membership.{element_at, element_more, element_position, not_element}

pub length-ones_at : (s : List ℕ) (n : ℕ) → length (ones_at s n) ≡ n
unfolding ones_at
length-ones_at s n = length-map-range_with_len (is_element s) 0 n

pub get_or-ones_at : (s : List ℕ) (n i : ℕ) (d : Bool) → i < n → get_or (ones_at s n) i d ≡ is_element s i
unfolding ones_at
get_or-ones_at s n i d h = get_or-map-range_with_len (is_element s) 0 n i i d h (omega arith)

-- ---- numbers that rise

module _ (s : List ℕ) (up : IsStrictlyIncreasing s) where
  pub ascends : IsNonDecreasing s
  ascends i j d h short = grind (arith, cases_lt, AllPairs-from_increasing)

  -- as many are below an element as are before it
  pub below_element : (r : ℕ) → r < length s → below s (slice_index s r) ≡ r
  below_element r h = below_at s (slice_index s r) r ascends (omega arith) (λ some. grind (arith, AllPairs-from_increasing)) (λ _. omega arith)

  -- a number that is an element
  below_held : (v : ℕ) → below s v < length s → slice_index s (below s v) ≡ v → below s (v + 1) ≡ below s v + 1
  below_held v h e = below_at s (v + 1) (below s v + 1) ascends (omega arith) (λ _. let last : below s v + 1 - 1 ≡ below s v = omega arith in rw last (omega arith)) (λ more. omega (arith, up (below s v) more))

  -- and one that is none
  below_free : (v : ℕ) → (below s v < length s → slice_index s (below s v) ≡ v → ⊥) → below s (v + 1) ≡ below s v
  below_free v none =
      below_at s (v + 1) (below s v) ascends (below_le s v) (λ some. grind (arith, below_before, ascends))
      (λ h. omega (arith, none h, below_after s v (below s v) ascends (omega arith) h))

  -- whether v is an element, by the element that `below` names
  pub element_test : (v : ℕ) → ((is_element s v ≡ true) × (below s (v + 1) ≡ below s v + 1))
      ⊎ ((is_element s v ≡ false) × (below s (v + 1) ≡ below s v))
  element_test v = grind (arith, element_position, below_element, below_held, below_free, element_at)

  pub count-ones_at : (n i : ℕ) → i ≤ n → count true (ones_at s n) i ≡ below s i
  count-ones_at n zero h = grind (arith, count_none, none_below, ascends)
  count-ones_at n (suc i) h =
      let e : suc i ≡ i + 1 = omega arith in
      let before : count true (ones_at s n) i ≡ below s i = count-ones_at n i (omega arith) in
      let within : i < length (ones_at s n) = omega (arith, length-ones_at s n) in
      let here : get_or (ones_at s n) i false ≡ is_element s i = get_or-ones_at s n i false (omega arith) in
      ap (count true (ones_at s n)) e ∙ grind (arith, element_test, count_more_yes, count_more_no)

  pub select-ones_at : (n r : ℕ) → r < length s → slice_index s r < n → select true (ones_at s n) r ≡ slice_index s r
  select-ones_at n r h within =
      let p : ℕ = slice_index s r in
      select_at true (ones_at s n) r p (omega (arith, length-ones_at s n))
      (grind (arith, get_or-ones_at, element_at))
      (count-ones_at n p (omega arith) ∙ below_element r h)

  -- all are below n
  pub all_ones : (n : ℕ) → (0 < length s → slice_index s (length s - 1) < n) → count true (ones_at s n) (length (ones_at s n)) ≡ length s
  all_ones n within = grind (arith, length-ones_at, count-ones_at, all_below, ascends, below_le)

  pub positions-ones_at : (n : ℕ) → (0 < length s → slice_index s (length s - 1) < n) → positions true (ones_at s n) ≡ s
  unfolding select
  positions-ones_at n within = grind (arith, length-positions, all_ones, same_number_lists, ascends, get_or_default, select-ones_at)

-- ---- how such bits come about

pub ones_at_more : (s : List ℕ) (n p : ℕ) → p < n → ones_at (s ++ p ∷ []) n ≡ set (ones_at s n) p true
ones_at_more s n p within = grind (arith, nat_tests, same_lists, length-ones_at, length-set, get_or-ones_at, element_more, get_or-set_same, get_or-set_other)

-- ---- the positions of a list's own ones or zeros

pub positions_rise : (b : Bool) (l : List Bool) → IsStrictlyIncreasing (positions b l)
unfolding select
positions_rise b l k h =
    let more : k + 1 < count b l (length l) = omega (arith, length-positions b l) in
    let step : select b l k < select b l (k + 1) = grind (arith, select_up) in
    omega (arith, step, get_or_default (positions b l) k 0 (length l) (omega arith), get_or_default (positions b l) (k + 1) 0 (length l) h)

pub positions_within : (b : Bool) (l : List Bool) (k : ℕ) → k < length (positions b l) → slice_index (positions b l) k < length l
unfolding select
positions_within b l k h = grind (arith, length-positions b l, get_or_default (positions b l) k 0 (length l) h, select_is_position)

pub ones_at-positions : (b : Bool) (l : List Bool) → ones_at (positions b l) (length l) ≡ map (is_bit b) l
unfolding select
ones_at-positions b l =
    same_lists _ _ (length-ones_at (positions b l) (length l) ∙ sym (length-map l (is_bit b))) (λ k d h.
    let short : k < length l = grind (arith, length-ones_at) in
    rw (get_or-ones_at (positions b l) (length l) k d short, get_or-map (is_bit b) l k false d short)
    (elim (cases_Bool (is_bit b (get_or l k false))) [
      | inl on ↦
          let more : count b l (k + 1) ≡ count b l k + 1 = count_more_yes b l k short on in
          let few : count b l k < length (positions b l) = omega (arith, more, length-positions b l, count_up b l (k + 1) (length l) (omega arith)) in
          rw on (element_at (positions b l) k _ few (get_or_default (positions b l) (count b l k) 0 (length l) few ∙ select_at b l (count b l k) k short on refl))
      | inr off ↦ rw off (not_element (positions b l) k (λ r few e.
          let at : IsPosition b l r (select b l r) = select_is_position b l r (omega (arith, length-positions b l)) in
          let same : select b l r ≡ k = get_or_default (positions b l) r (length l) 0 few ∙ e in
          absurd (cc (rw same at at.holds, off))))
    ]))

-- the positions of the ones and the length determine the list
pub ones_at-same : (bits : List Bool) (n : ℕ) (ones : List ℕ) → length bits ≡ n → positions true bits ≡ ones → bits ≡ ones_at ones n
ones_at-same bits n ones long at = rw (← long, ← at) (sym (map-id bits) ∙ sym (ones_at-positions true bits))
