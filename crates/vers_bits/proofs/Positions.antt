-- The positions of a bit.
use Rattle.vers_bits.proofs.Names.{◌≡◌, ℕ, zero, suc, ◌+◌, ◌<◌, ◌≤◌, Bool, true, false, cond, List, [], ◌∷◌, ◌++◌, length, get_or, refl, sym, ap, ◌∙◌, arith, add-one, inl, inr, filter, range_with_len, cases_lt, cases_Bool, get_or_append_left, get_or_push, get_or_past, length-append, map-id, count_by_more_yes, count_by_more_no, filter_of_map_range_with_len_more, is_bit, count, positions, select}
use Rattle.vers_bits.proofs.Count.{count_up, count_none, count_le_all}

module _ (b : Bool) (l : List Bool) where
  -- the positions below n
  below : ℕ → List ℕ
  below n = filter (λ i. is_bit b (get_or l i false)) (range_with_len 0 n)

  below_more : (n : ℕ) → below (n + 1) ≡ below n ++ cond (is_bit b (get_or l n false)) (n ∷ []) []
  unfolding below
  below_more n =
      let more = filter_of_map_range_with_len_more (λ i. is_bit b (get_or l i false)) (λ (x : ℕ). x) 0 n n (omega arith) in
      rw (map-id (range_with_len 0 (n + 1)), map-id (range_with_len 0 n)) at more

  pub count_more_yes : (n : ℕ) → n < length l → is_bit b (get_or l n false) ≡ true → count b l (n + 1) ≡ count b l n + 1
  unfolding count
  count_more_yes n h on = count_by_more_yes (is_bit b) l n false h on

  pub count_more_no : (n : ℕ) → n < length l → is_bit b (get_or l n false) ≡ false → count b l (n + 1) ≡ count b l n
  unfolding count
  count_more_no n h off = count_by_more_no (is_bit b) l n false h off

  length-below_none : length (below 0) ≡ 0
  unfolding below
  length-below_none = refl

  length-below : (n : ℕ) → n ≤ length l → length (below n) ≡ count b l n
  length-below zero h = length-below_none ∙ sym (count_none b l)
  length-below (suc n) h =
      let here : length (below n) ≡ count b l n = length-below n (omega arith) in
      rw (← add-one n, below_more n) (elim (cases_Bool (is_bit b (get_or l n false))) [
        | inl on ↦ rw (on, length-append, count_more_yes n h on) (omega (arith, here))
        | inr off ↦ rw (off, length-append, count_more_no n h off) (omega (arith, here))
      ])

  below_at : (n p d : ℕ) → n ≤ length l → p < n → is_bit b (get_or l p false) ≡ true → get_or (below n) (count b l p) d ≡ p
  below_at zero p d h within on = absurd (omega arith)
  below_at (suc n) p d h within on =
      rw (← add-one n, below_more n) (elim (cases_lt p n) [
        | inl lower ↦
            let early : count b l p < length (below n) = omega (arith, length-below n (omega arith), count_up b l (p + 1) n (omega arith), count_more_yes p (omega arith) on) in
            rw (get_or_append_left (below n) _ d (count b l p) early) (below_at n p d (omega arith) lower on)
        | inr last ↦
            let here : p ≡ n = omega arith in
            let held : is_bit b (get_or l n false) ≡ true = rw here at on in
            rw (here, held) (get_or_push (below n) n d (count b l n) (length-below n (omega arith)))
      ])

  pub select_at : (r p : ℕ) → p < length l → is_bit b (get_or l p false) ≡ true → count b l p ≡ r → select b l r ≡ p
  unfolding select positions below
  select_at r p h on e = sym (ap (λ x. get_or (below (length l)) x (length l)) e) ∙ below_at (length l) p (length l) (omega arith) h on

  pub select_past : (r : ℕ) → count b l (length l) ≤ r → select b l r ≡ length l
  unfolding select positions below
  select_past r h = get_or_past (below (length l)) r (length l) (omega (arith, length-below (length l) (omega arith)))

  -- all positions are as many as the whole list counts
  pub length-positions : length (positions b l) ≡ count b l (length l)
  unfolding positions below
  length-positions = length-below (length l) (omega arith)

-- position p is number r of those that have the bit
pub record IsPosition (b : Bool) (l : List Bool) (r p : ℕ) : Type 0 where
  pub within : p < length l
  pub holds : is_bit b (get_or l p false) ≡ true
  pub before : count b l p ≡ r

pub select_from_position : {b : Bool} {l : List Bool} {r p : ℕ} → IsPosition b l r p → select b l r ≡ p
select_from_position {b} {l} {r} {p} at = select_at b l r p at.within at.holds at.before

passes : (b : Bool) (l : List Bool) (r n : ℕ) → n ≤ length l → r < count b l n → (p : ℕ) × IsPosition b l r p
passes b l r zero h some = absurd (omega (arith, count_none b l))
passes b l r (suc n) h some =
    let more : r < count b l (n + 1) = rw add-one some in
    elim (cases_lt r (count b l n)) [
      | inl early ↦ passes b l r n (omega arith) early
      | inr late ↦
          let on : is_bit b (get_or l n false) ≡ true = grind (arith, cases_Bool, count_more_no) in
          (n, record { within = omega arith; holds = on; before = omega (arith, count_more_yes b l n (omega arith) on) })
    ]

-- if there is a position of number r, `select` is that position
pub select_is_position : (b : Bool) (l : List Bool) (r : ℕ) → r < count b l (length l) → IsPosition b l r (select b l r)
select_is_position b l r some = let found = passes b l r (length l) (omega arith) some in rw (select_from_position found.1) found.1

-- the count up to the position of number r, and past it
pub count_at_select : (b : Bool) (l : List Bool) (r : ℕ) → r < count b l (length l)
    → (select b l r < length l) × (count b l (select b l r) ≡ r) × (count b l (select b l r + 1) ≡ r + 1)
count_at_select b l r some = grind (arith, select_is_position, count_more_yes)

-- number r is below p if more than r positions below p have the bit
pub select_below : (b : Bool) (l : List Bool) (r p : ℕ) → r < count b l p → select b l r < p
select_below b l r p h = grind (arith, select_is_position, count_le_all, count_up)

-- number r is at or above p if at most r positions below p have the bit
pub select_not_below : (b : Bool) (l : List Bool) (r p : ℕ) → r < count b l (length l) → count b l p ≤ r → p ≤ select b l r
select_not_below b l r p some h = grind (arith, count_at_select, count_up)
