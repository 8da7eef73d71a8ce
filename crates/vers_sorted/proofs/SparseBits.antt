-- The queries of a sparse list of bits, by those of the list of its ones' positions.
use Rattle.vers_sorted.proofs.Names.{◌≡◌, ℕ, ◌+◌, ◌-◌, ◌<◌, ◌≤◌, Bool, true, false, List, [], ◌∷◌, length, drop, get_or, eqb, refl, sym, ap, subst, ◌∙◌, arith, min, Some, None, zero, suc, slice_index, slice_get, map, IsNonDecreasing, eq-eqb, ne_eqb, get_or_default, map-id, drop-drop, drop_all, get_or-drop, length-drop, slice_get-get_or, slice_get_past, slice_get_within, get_or_from_slice_get, is_bit, count, positions, count_at_select, count_none, count_both, count_past, count_up, select_at, select_past, length-positions, count_more_yes, below, least_not_below, ones_at, AreSparse, TakesFirst, last_of, select}
use Rattle.vers_sorted.proofs.Below.{below_le, below_from, below_to, below_after, all_below}
use Rattle.vers_sorted.proofs.Neighbours.{succ_is}
use Rattle.vers_sorted.proofs.Ones.{length-ones_at, get_or-ones_at, element_test, ascends, below_element, count-ones_at, select-ones_at, all_ones, positions-ones_at, positions_rise, positions_within, ones_at-positions}

module _ {s : List ℕ} {n : ℕ} (sparse : AreSparse s n) where
  last_within : 0 < length s → slice_index s (length s - 1) < n
  last_within some = sparse.within (length s - 1) 0 (omega arith)

  pub positions_are : positions true (ones_at s n) ≡ s
  positions_are = positions-ones_at s sparse.rising n last_within

  pub count_is : (i : ℕ) → count true (ones_at s n) i ≡ below s i
  count_is i = grind (arith, count-ones_at, all_below, ascends, last_within, below_le, count_past, length-ones_at, all_ones)

  pub select_some : (r v : ℕ) → slice_get s r ≡ Some v → select true (ones_at s n) r ≡ v
  select_some r v e = grind (arith, slice_get-get_or, select-ones_at, slice_get_past)

  pub select_none : (r : ℕ) → slice_get s r ≡ None → select true (ones_at s n) r ≡ n
  select_none r e =
      let all = all_ones s sparse.rising n last_within in
      grind (arith, slice_get-get_or s r 0, select_past, length-ones_at)

  -- the bit at a position, by the least element that is not below it
  pub bit_some : (p v : ℕ) → p < n → least_not_below s p ≡ Some v → get_or (ones_at s n) p false ≡ eqb v p
  bit_some p v within e =
      let up : IsNonDecreasing s = ascends s sparse.rising in
      let at : slice_get s (below s p) ≡ Some v = sym (succ_is s p up) ∙ e in
      let few = slice_get_within s (below s p) v at in
      let same = get_or_from_slice_get s (below s p) v 0 at in
      get_or-ones_at s n p false within ∙ grind (arith, element_test, eq-eqb, below_to, below_after, below_from, ne_eqb)

  pub bit_none : (p : ℕ) → p < n → least_not_below s p ≡ None → get_or (ones_at s n) p false ≡ false
  bit_none p within e =
      let at : slice_get s (below s p) ≡ None = grind (arith, succ_is, ascends) in
      get_or-ones_at s n p false within ∙ grind (arith, slice_get-get_or s (below s p) 0, below_le s (p + 1), element_test)

-- the list has no fewer bits than ones, and each element is one of its positions
pub elements_few : {s : List ℕ} {n : ℕ} → AreSparse s n → length s ≤ length (ones_at s n)
elements_few {s} {n} sparse = omega (arith, all_ones s sparse.rising n (last_within sparse), count_both (ones_at s n) (length (ones_at s n)))

-- ---- from the positions of a list's bits

pub sparse_positions : (b : Bool) (l : List Bool) → AreSparse (positions b l) (length l)
sparse_positions b l = record {
  rising = positions_rise b l;
  within = λ k d h. omega (arith, positions_within b l k h, get_or_default (positions b l) k d 0 h);
}

pub positions_ascend : (b : Bool) (l : List Bool) → IsNonDecreasing (positions b l)
positions_ascend b l = ascends (positions b l) (positions_rise b l)

pub map_ones : (l : List Bool) → map (is_bit true) l ≡ l
map_ones l = map-id l

-- ---- the positions from a position on

-- a position of the bit is the first from p on if no position between them is one
pub position_at : (b : Bool) (l : List Bool) (p q : ℕ) → q < length l → is_bit b (get_or l q false) ≡ true → count b l q ≡ count b l p → slice_get (positions b l) (count b l p) ≡ Some q
unfolding select
position_at b l p q h on same =
    let more : count b l (q + 1) ≡ count b l q + 1 = count_more_yes b l q h on in
    let few : count b l p < length (positions b l) = omega (arith, more, same, length-positions b l, count_up b l (q + 1) (length l) (omega arith)) in
    slice_get-get_or (positions b l) (count b l p) (length l) few ∙ ap Some (select_at b l (count b l p) q h on same)

-- past the last position there is none
pub no_position : (b : Bool) (l : List Bool) (p : ℕ) → length l ≤ p → slice_get (positions b l) (count b l p) ≡ None
no_position b l p past = slice_get_past (positions b l) (count b l p) (omega (arith, length-positions b l, count_past b l p past))

-- a position is within the list, and past it one position more is passed
pub past_position : (b : Bool) (l : List Bool) (c p : ℕ) → slice_get (positions b l) c ≡ Some p → (p < length l) × (count b l (p + 1) ≡ c + 1)
unfolding select
past_position b l c p e =
    let at : select b l c ≡ p = get_or_from_slice_get (positions b l) c p (length l) e in
    let counted = count_at_select b l c (omega (arith, slice_get_within (positions b l) c p e, length-positions b l)) in
    let P : ℕ → Type 0 = λ q. (q < length l) × (count b l (q + 1) ≡ c + 1) in
    subst P at (counted.0, counted.2)

first_is : (s : List ℕ) (c : ℕ) → slice_get (drop c s) 0 ≡ slice_get s c
first_is s zero = refl
first_is [] (suc c) = refl
first_is (x ∷ s) (suc c) = first_is s c

-- the positions left are taken one by one
pub position_taken : (b : Bool) (l : List Bool) (c p : ℕ) → slice_get (positions b l) c ≡ Some p → TakesFirst (drop c (positions b l)) (Some p) (drop (count b l (p + 1)) (positions b l))
position_taken b l c p e = record {
  given = sym (first_is (positions b l) c ∙ e);
  left = ap (λ n. drop n (positions b l)) (past_position b l c p e).1 ∙ sym (drop-drop 1 c (positions b l));
}

pub all_positions_taken : (b : Bool) (l : List Bool) (c : ℕ) → slice_get (positions b l) c ≡ None → TakesFirst (drop c (positions b l)) None (drop c (positions b l))
all_positions_taken b l c e =
    let past : length (positions b l) ≤ c = grind (arith, slice_get-get_or (positions b l) c 0) in
    record {
      given = sym (first_is (positions b l) c ∙ e);
      left = drop_all c (positions b l) past ∙ sym (drop-drop 1 c (positions b l) ∙ drop_all (c + 1) (positions b l) (omega (arith, past)));
    }

-- all positions are those from 0 on
pub from_start : (b : Bool) (l : List Bool) → drop (count b l 0) (positions b l) ≡ positions b l
from_start b l = ap (λ n. drop n (positions b l)) (count_none b l)

-- those from a position on end as all do, if there are any
pub last_from : (s : List ℕ) (c p : ℕ) → slice_get s c ≡ Some p → last_of (drop c s) ≡ last_of s
last_from s c p e =
    let at : c + (length (drop c s) - 1) ≡ length s - 1 = omega (arith, slice_get_within s c p e, length-drop c s) in
    get_or-drop c s (length (drop c s) - 1) 0 ∙ ap (slice_index s) at

pub zeros_are : (l : List Bool) (i : ℕ) → min i (length l) - count true l i ≡ count false l i
zeros_are l i = omega (arith, count_both l i)

pub ones_few : (l : List Bool) (i : ℕ) → count true l i ≤ min i (length l)
ones_few l i = omega (arith, count_both l i)

pub ruleset sparse = (length-ones_at, get_or-ones_at, elements_few, positions_are, count_is, select_some, select_none, bit_some, bit_none, ascends, map_ones)

pub ruleset from_positions = (sparse_positions, positions_ascend, ones_at-positions)

pub ruleset walking = (past_position, position_taken, all_positions_taken)

pub ruleset lasts = (from_start, last_from)

pub ruleset zeros = (zeros_are, ones_few)
