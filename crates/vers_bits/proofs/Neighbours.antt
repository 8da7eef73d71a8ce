-- The positions next to a position, by counts and selects.
use Rattle.vers_bits.proofs.Names.{◌≡◌, ℕ, zero, suc, ◌+◌, ◌-◌, ◌<◌, ◌≤◌, Bool, true, false, List, [], ◌∷◌, length, get_or, refl, ◌∙◌, arith, inl, inr, Option, Some, None, nat_lt, filter, find, last_or, cases_lt, lt-ltb, le-ltb, get_or_default, slice_get-get_or, slice_get_past, count, positions, false_from_ne_true, slice_get, select, position_after, position_before}
use Rattle.vers_bits.proofs.Count.{count_le_all, count_up, count_past}
use Rattle.vers_bits.specs.Laws.{IsNextPosition, NoneUpToNeighbour, NoneDownToNeighbour}
use Rattle.vers_bits.proofs.Positions.{length-positions, select_is_position, select_past, select_below, select_not_below, count_more_yes}

-- the first item that passes, in a list whose items pass from number k on
pub find_is : (p : ℕ → Bool) (s : List ℕ) (k : ℕ) → k ≤ length s → ((i : ℕ) → i < k → p (get_or s i 0) ≡ false) → (k < length s → p (get_or s k 0) ≡ true) → find p s ≡ slice_get s k
find_is p [] k h off on = refl
find_is p (x ∷ s) zero h off on = rw (on (omega arith)) refl
find_is p (x ∷ s) (suc k) h off on = rw (off 0 (omega arith)) (find_is p s k (omega arith) (λ i small. off (suc i) (omega arith)) (λ small. on (omega arith)))

-- where no item passes
pub none_passing : (o : Option ℕ) (p : ℕ → Bool) (s : List ℕ) → ((i : ℕ) → i < length s → p (get_or s i 0) ≡ false) → last_or o (filter p s) ≡ o
none_passing o p [] off = refl
none_passing o p (x ∷ s) off = rw (off 0 (omega arith)) (none_passing o p s (λ i small. off (suc i) (omega arith)))

-- the last item that passes, in a list whose items pass up to number k
pub last_passing_is : (o : Option ℕ) (p : ℕ → Bool) (s : List ℕ) (k : ℕ) → k < length s → ((i : ℕ) → i < k + 1 → p (get_or s i 0) ≡ true)
    → ((i : ℕ) → k + 1 ≤ i → i < length s → p (get_or s i 0) ≡ false) → last_or o (filter p s) ≡ slice_get s k
last_passing_is o p [] k h on off = absurd (omega arith)
last_passing_is o p (x ∷ s) zero h on off =
    rw (on 0 (omega arith)) (none_passing (Some x) p s (λ i small. off (suc i) (omega arith) (omega arith)))
last_passing_is o p (x ∷ s) (suc k) h on off =
    rw (on 0 (omega arith)) (last_passing_is (Some x) p s k (omega arith) (λ i small. on (suc i) (omega arith)) (λ i large small. off (suc i) (omega arith) (omega arith)))

module _ (b : Bool) (l : List Bool) where
  position_number : (i : ℕ) → i < length (positions b l) → get_or (positions b l) i 0 ≡ select b l i
  unfolding select
  position_number i h = get_or_default (positions b l) i 0 (length l) h

  get_position : (i : ℕ) → i < count b l (length l) → slice_get (positions b l) i ≡ Some (select b l i)
  unfolding select
  get_position i h = slice_get-get_or (positions b l) i (length l) (omega (arith, length-positions b l))

  after_is : (p : ℕ) → position_after b l p ≡ slice_get (positions b l) (count b l (p + 1))
  unfolding position_after
  after_is p = grind (arith, find_is, nat_lt, positions, count, length-positions, count_le_all, position_number, le-ltb, select_below, lt-ltb, select_not_below)

  -- the neighbour above is number count (p + 1), if there is one
  pub position_after_some : (p : ℕ) → count b l (p + 1) < count b l (length l) → position_after b l p ≡ Some (select b l (count b l (p + 1)))
  position_after_some p h = after_is p ∙ get_position (count b l (p + 1)) h

  pub position_after_none : (p : ℕ) → count b l (length l) ≤ count b l (p + 1) → position_after b l p ≡ None
  position_after_none p h = after_is p ∙ slice_get_past (positions b l) (count b l (p + 1)) (omega (arith, length-positions b l))

  -- the neighbour below is number count p - 1, if there is one
  pub position_before_some : (p : ℕ) → 0 < count b l p → position_before b l p ≡ Some (select b l (count b l p - 1))
  unfolding position_before
  position_before_some p h =
      last_passing_is None (λ q. nat_lt q p) (positions b l) (count b l p - 1) (omega (arith, length-positions b l, count_le_all b l p))
      (λ i small. grind (arith, length-positions b l, count_le_all b l p, position_number, lt-ltb, select_below b l i p (omega arith)))
      (λ i large small. grind (arith, length-positions b l, position_number, le-ltb, select_not_below))
      ∙ get_position (count b l p - 1) (omega (arith, count_le_all b l p))

  pub position_before_none : (p : ℕ) → count b l p ≡ 0 → position_before b l p ≡ None
  unfolding position_before
  position_before_none p h = none_passing None (λ q. nat_lt q p) (positions b l) (λ i small. grind (arith, length-positions b l, position_number, le-ltb, select_not_below))

-- the first position at or after a position that has the bit, or the length
pub next_position : (b : Bool) (l : List Bool) (i : ℕ) → i ≤ length l → IsNextPosition b l i (select b l (count b l i))
next_position b l i within =
    let past = select_past b l (count b l i) in
    let at = select_is_position b l (count b l i) in
    record {
      from = grind (arith, select_not_below);
      within = grind arith;
      none_between = λ q h k. false_from_ne_true _ (λ on. grind (arith, count_more_yes b l q, count_up b l i q h, count_up b l (q + 1) (select b l (count b l i)), count_le_all b l (q + 1)));
      holds = λ h. grind arith;
    }

-- none is between a position and its neighbours
pub none_up : NoneUpToNeighbour
none_up b l p = elim (cases_lt (count b l (p + 1)) (count b l (length l))) [
  | inl some ↦
      let at = select_is_position b l (count b l (p + 1)) some in
      let next = next_position b l (p + 1) (grind (arith, count_past b l (p + 1))) in
      rw (position_after_some b l p some) (omega (arith, next.from), (at.within, at.holds), next.none_between)
  | inr none ↦
      rw (position_after_none b l p none) (λ q h k. false_from_ne_true _ (λ on. grind (arith, count_more_yes b l q, count_up b l (p + 1) q h, count_le_all b l (q + 1))))
]

pub none_down : NoneDownToNeighbour
none_down b l p = elim (cases_lt 0 (count b l p)) [
  | inl some ↦
      let at = select_is_position b l (count b l p - 1) (omega (arith, count_le_all b l p)) in
      let more = count_more_yes b l (select b l (count b l p - 1)) at.within at.holds in
      rw (position_before_some b l p some) (
        select_below b l (count b l p - 1) p (omega arith),
        (at.within, at.holds),
        (λ q h k. false_from_ne_true _ (λ on. grind (arith, more, count_up b l (select b l (count b l p - 1) + 1) q h, count_more_yes b l q, count_up b l (q + 1) p))),
      )
  | inr none ↦ rw (position_before_none b l p (omega arith)) (λ q h k. false_from_ne_true _ (λ on. grind (arith, count_more_yes b l q, count_up b l (q + 1) p)))
]
