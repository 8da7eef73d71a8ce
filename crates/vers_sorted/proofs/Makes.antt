-- How high and low parts are made.
use Rattle.vers_sorted.proofs.Names.{◌≡◌, ◌==◌, ℕ, ◌+◌, ◌-◌, ◌*◌, ◌/◌, ◌^◌, ◌<◌, ◌≤◌, true, false, Bool, List, [], suc, ◌∷◌, ◌++◌, length, drop, Option, Some, None, unwrap_or, refl, sym, ap, ◌∙◌, arith, set, replicate, mul-le-mul_left, mul_comm, zero-div, slice_index, slice_get, map, if◌then◌else◌, range_with_len, IsNonDecreasing, get_or_past, append-nil, map-append, take_all, take_more, length-map, length-take, length-drop, drop-drop, get_or-drop, slice_get-get_or, slice_get_within, get_or_from_slice_get, map-range_with_len_more, flat_map-append, low_bits, pack, first_of, last_of, width, high_position, get_or-replicate, length-replicate, same_lists, TakesFirst, low_width, high_of, high_length, high_parts, low_parts, first_high_parts, first_low_parts}
use Rattle.std.proofs.lemmas.Option.{same_Some}
use Rattle.vers_sorted.proofs.Membership.{element_none}
use Rattle.vers_sorted.proofs.Ones.{length-ones_at, ones_at_more, get_or-ones_at}
use Rattle.vers_sorted.proofs.Split.{high_zeros, element_from}
use Rattle.vers_sorted.proofs.Holds.{position_within, length-pack}
use Rattle.vers_sorted.proofs.Lengths.{high_fits}

-- ---- ends

pub first_none : (s : List ℕ) → length s ≡ 0 → first_of s ≡ 0
first_none s e = get_or_past s 0 0 (omega arith)

pub last_none : (s : List ℕ) → length s ≡ 0 → last_of s ≡ 0
last_none s e = get_or_past s (length s - 1) 0 (omega arith)

pub first_last : (s : List ℕ) → IsNonDecreasing s → first_of s ≤ last_of s
first_last s up = grind (arith, first_none)

pub low_width_is : (s : List ℕ) (first last n w : ℕ) → first ≡ first_of s → last ≡ last_of s → n ≡ length s → w ≡ width n (last - first) → w ≡ low_width s
unfolding low_width
low_width_is s first last n w f l same e = e ∙ rw (same, l, f) refl

-- the high part of a number as the code computes it
pub high_part_is : (s : List ℕ) (v first width : ℕ) → first ≡ first_of s → width ≡ low_width s → (v - first) / 2 ^ width ≡ high_of s v
unfolding high_of
high_part_is s v first width f w = rw (f, w) refl

-- ---- the high parts

pub high_start : (s : List ℕ) (n : ℕ) → n ≡ high_length s → replicate n false ≡ first_high_parts s 0
unfolding first_high_parts
high_start s n e = grind (arith, same_lists, length-ones_at, length-replicate, get_or-ones_at, get_or-replicate, element_none)

pub high_next : (s : List ℕ) (i : ℕ) → IsNonDecreasing s → i < length s → set (first_high_parts s i) (high_position s i) true ≡ first_high_parts s (i + 1)
unfolding first_high_parts
high_next s i up h = rw (map-range_with_len_more (high_position s) 0 i i (omega arith), ones_at_more _ _ _ (position_within s up i h)) refl

pub high_all : (s : List ℕ) → first_high_parts s (length s) ≡ high_parts s
unfolding first_high_parts high_parts
high_all s = refl

pub length-first_high_parts : (s : List ℕ) (i : ℕ) → length (first_high_parts s i) ≡ high_length s
unfolding first_high_parts
length-first_high_parts s i = length-ones_at (map (high_position s) (range_with_len 0 i)) (high_length s)

-- ---- the low parts

pub low_start : (s : List ℕ) → [] ≡ first_low_parts s 0
unfolding first_low_parts
low_start s = refl

pub low_next : (s : List ℕ) (i : ℕ) → i < length s → first_low_parts s i ++ low_bits (slice_index s i - first_of s) (low_width s) ≡ first_low_parts s (i + 1)
unfolding first_low_parts
low_next s i h = rw (take_more s i 0 h, map-append, flat_map-append, append-nil) refl

-- the low parts of the first i elements, which fit
pub low_length : (s : List ℕ) (i w : ℕ) → w ≡ low_width s → i ≤ length s → (length (first_low_parts s i) ≡ w * i) × (w * i ≤ length s * w)
unfolding first_low_parts
low_length s i w e h = grind (arith, length-map, length-take, length-pack, mul-le-mul_left, mul_comm)

pub low_all : (s : List ℕ) → first_low_parts s (length s) ≡ low_parts s
unfolding first_low_parts low_parts
low_all s = ap (λ l. pack (map (λ m. m - first_of s) l) (low_width s)) (take_all (length s) s (omega arith))

-- ---- numbers read in turn

-- a number that was taken is that at its position
pub taken_at : (s rest new : List ℕ) (i v : ℕ) → rest ≡ drop i s → TakesFirst rest (Some v) new → (i < length s) × (slice_index s i ≡ v) × (new ≡ drop (i + 1) s)
taken_at s rest new i v here t =
    let given : slice_get (drop i s) 0 ≡ Some v = sym (rw here at t.given) in
    let from : i ≡ i + 0 = omega arith in
    let at : slice_index s i ≡ v = rw (from, ← get_or-drop i s 0 0) (get_or_from_slice_get (drop i s) 0 v 0 given) in
    (omega (arith, slice_get_within (drop i s) 0 v given, length-drop i s), at, rw (here, drop-drop) at t.left)

-- where none was, all were taken
pub all_taken : (s rest new : List ℕ) (i : ℕ) → rest ≡ drop i s → i ≤ length s → TakesFirst rest None new → i ≡ length s
all_taken s rest new i here within t = grind (arith, length-drop i s, slice_get-get_or)

-- the first, or 0
pub first_taken : (s new : List ℕ) (taken : Option ℕ) → TakesFirst s taken new → unwrap_or taken 0 ≡ first_of s
first_taken s new None t = grind (arith, first_none, all_taken)
first_taken s new (Some v) t = grind (arith, taken_at)

-- the last of a number and others is that of the others, if there are any
last_after : (v : ℕ) (s : List ℕ) → 0 < length s → last_of (v ∷ s) ≡ last_of s
last_after v s some = let at : length (v ∷ s) - 1 ≡ suc (length s - 1) = omega (arith, some) in ap (slice_index (v ∷ s)) at

pub last_of_zero : (s : List ℕ) → last_of (0 ∷ s) ≡ last_of s
last_of_zero [] = refl
last_of_zero (v ∷ s) = last_after 0 (v ∷ s) (omega arith)

-- one number more is read
pub last_read : (last v : ℕ) (rest new : List ℕ) → TakesFirst rest (Some v) new → last_of (v ∷ new) ≡ last_of (last ∷ rest)
last_read last v [] new t = absurd (cc (t.given))
last_read last v (x ∷ rest) new t =
    let same : v ∷ new ≡ x ∷ rest = rw (same_Some v x t.given, t.left) refl in
    ap last_of same ∙ sym (last_after last (x ∷ rest) (omega arith))

pub all_read : (last : ℕ) (rest new : List ℕ) → TakesFirst rest None new → last_of (last ∷ rest) ≡ last
all_read last [] new t = refl
all_read last (x ∷ rest) new t = absurd (cc (t.given))

pub ruleset lasts = (last_of_zero, last_read, all_read)

pub ruleset ends = (first_none, last_none, first_last, first_taken)

-- it isn't below the first, and its one is among the high parts
pub taken_above : (s rest new : List ℕ) (i v first : ℕ) → IsNonDecreasing s → first ≡ first_of s → rest ≡ drop i s → TakesFirst rest (Some v) new → first ≤ v
taken_above s rest new i v first up f here t =
    let at = taken_at s rest new i v here t in
    omega (arith, element_from s i up at.0, at.1)

pub one_position : (s rest new : List ℕ) (i v first width : ℕ) → IsNonDecreasing s → first ≡ first_of s → width ≡ low_width s → rest ≡ drop i s → TakesFirst rest (Some v) new
    → ((v - first) / 2 ^ width + i + 1 ≡ high_position s i) × (high_position s i < high_length s)
one_position s rest new i v first width up f w here t =
    let at = taken_at s rest new i v here t in
    let high : (v - first) / 2 ^ width ≡ high_of s (slice_index s i) = grind (arith, high_part_is) in
    grind (arith, position_within)

-- the parts with those of one number more
pub one_more : (s rest new : List ℕ) (high set_high : List Bool) (i v first width : ℕ) → IsNonDecreasing s → first ≡ first_of s → width ≡ low_width s → rest ≡ drop i s → TakesFirst rest (Some v) new
    → high ≡ first_high_parts s i → set_high ≡ set high ((v - first) / 2 ^ width + i + 1) true → set_high ≡ first_high_parts s (i + 1)
one_more s rest new high set_high i v first width up f w here t is put =
    let at = taken_at s rest new i v here t in
    put ∙ ap (λ p. set high p true) (one_position s rest new i v first width up f w here t).0
    ∙ ap (λ l. set l (high_position s i) true) is ∙ high_next s i up at.0

-- ---- lengths

-- how many bits the high parts take
pub high_len_is : (s : List ℕ) (n first last width bits : ℕ) → n ≡ length s → first ≡ first_of s → last ≡ last_of s → width ≡ low_width s
    → bits ≡ (if n == 0 then 0 else 2 + n + (last - first) / 2 ^ width) → bits ≡ high_length s
unfolding high_length
high_len_is s n first last width bits same f l w is = grind (arith, high_part_is)

-- which are few even of no elements
pub high_sum_fits : (s : List ℕ) (n first last width : ℕ) → n ≡ length s → first ≡ first_of s → last ≡ last_of s → width ≡ low_width s → n < 1152921504606846976
    → 2 + n + (last - first) / 2 ^ width ≤ 2305843009213693954
high_sum_fits s n first last width same f l w few =
    let high : (last - first) / 2 ^ width ≡ high_of s (last_of s) = grind (arith, high_part_is) in
    let none : 0 / 2 ^ width ≡ 0 = zero-div (2 ^ width) in
    grind (arith, high_zeros s, high_fits s, first_none s, last_none s)
