-- The elements that a walk to the successors of rising numbers passes.
unfoldable use Rattle.vers_bits.specs.Bits.{count, limb}
use Rattle.vers_sorted.proofs.Names.{◌≡◌, ℕ, ◌+◌, ◌-◌, ◌<◌, ◌≤◌, Bool, true, List, [], length, take, drop, refl, sym, ap, ◌∙◌, arith, Some, None, cond, slice_index, w64, trailing_zeros, IsNonDecreasing, number, number-lt, is_bit, count_le, count_up, count_none, count_more_yes, select, select_below, high_parts, high_of, first_of, below, least_not_below, IsPacked, inl, inr, cases_lt, ◌*◌, ◌%◌, ◌^◌, length-take, take_all, mod-eq_of_lt, part_number_or_zero, get_or_from_slice_get, slice_get_within}
use Rattle.std.proofs.Math.Seq.{take-add}
use Rattle.std.proofs.Common.{zero-add}
use Rattle.std.proofs.lemmas.List.Sums.{sum_by-append}
use Rattle.std.proofs.lemmas.Option.{none-some}
use Rattle.std.specs.Prelude.{count_by, count_ones}
use Rattle.vers_bits.proofs.PublicLaws.{count_limb}
use Rattle.vers_sorted.specs.declared.elias_fano.ahead.Ahead.{Ahead}
use Rattle.vers_sorted.specs.declared.elias_fano.successors.Passed.{Passed}
use Rattle.vers_sorted.specs.inside.Ahead.{HasRead}
use Rattle.vers_sorted.specs.inside.Passed.{HasPassed}
use Rattle.vers_sorted.proofs.Aheads.{lowest}
use Rattle.vers_sorted.proofs.Below.{below_le, below_up, below_from, below_to}
use Rattle.vers_sorted.proofs.Holds.{hold_high}
use Rattle.vers_sorted.proofs.Neighbours.{succ_is, succ_at, succ_past}
use Rattle.vers_sorted.proofs.Packed.{high_at, high_same}
use Rattle.vers_sorted.proofs.Scans.{part_of, counted_past, select_within}
use Rattle.vers_sorted.proofs.Split.{high_up}

-- ---- the next element, whose one was read ahead

module _ (s : List ℕ) (i : ℕ) (a : Ahead) (up : IsNonDecreasing s) (read : HasRead s i a) (some : 0 < a.word) where
  -- it is an element
  pub read_within : i < length s
  read_within =
      let found = lowest (high_parts s) a.position a.len read.within read.few (omega (arith, read.bits)) in
      let t : ℕ = trailing_zeros w64 (number (take a.len (drop a.position (high_parts s)))) in
      let here : a.position + t < length (high_parts s) = omega (arith, found.0, read.within) in
      omega (arith, found.2, read.before, count_more_yes true (high_parts s) (a.position + t) here found.1, count_up true (high_parts s) (a.position + t + 1) (length (high_parts s)) (omega arith), (hold_high s up).ones)

-- ---- the ones of a part

-- the ones of up to 64 bits are the digits 1 of their number
ones_of : (l : List Bool) → length l ≤ 64 → count_by (is_bit true) l ≡ count_ones (number l)
unfolding limb count
ones_of l few =
    let from_none : length l ≡ 64 * 0 + length l = omega arith in
    let small : number l < 2 ^ length l = number-lt l in
    let whole : number (take 64 l) ≡ number l = ap number (take_all 64 l few) in
    let kept : number l % 2 ^ length l ≡ number l = mod-eq_of_lt small in
    sym (ap (count_by (is_bit true)) (take_all (length l) l (omega arith))) ∙ ap (count true l) from_none ∙ count_limb l 0 (length l) few
    ∙ zero-add _ ∙ ap count_ones (ap (λ n. n % 2 ^ length l) whole ∙ kept)

ones_of_none : 0 ≡ count_ones 0
ones_of_none = ones_of [] (omega arith)

-- up to the end of a part there are as many ones more as its number has digits 1
pub count_part : (l : List Bool) (p n : ℕ) → n ≤ 64 → count true l (p + n) ≡ count true l p + count_ones (number (take n (drop p l)))
unfolding count
count_part l p n few =
    ap (count_by (is_bit true)) (take-add p n l) ∙ sum_by-append (λ x. cond (is_bit true x) 1 0) (take p l) (take n (drop p l))
    ∙ ap (λ m. count true l p + m) (ones_of (take n (drop p l)) (simp length-take (omega arith)))

-- ---- elements below a number

-- an element with a lesser high part than v is below it
pub lesser_below : (s : List ℕ) (v i : ℕ) → IsNonDecreasing s → first_of s ≤ v → i < length s → high_of s (slice_index s i) < high_of s v → i + 1 ≤ below s v
lesser_below s v i up from h less = elim (cases_lt (slice_index s i) v) [
  | inl before ↦ below_from s v i up h before
  | inr above ↦ absurd (omega (arith, less, high_up s v (slice_index s i) above from))
]

-- an element that isn't below v, after some that are, is its successor
pub succ_found : (s : List ℕ) (v i : ℕ) → IsNonDecreasing s → i < length s → i ≤ below s v → v ≤ slice_index s i → (least_not_below s v ≡ Some (slice_index s i)) × (i ≡ below s v)
succ_found s v i up h before above =
    let here : i ≡ below s v = omega (arith, below_to s v i up h above) in
    (succ_at s v i up here h, here)

-- ---- the next word

module _ (s : List ℕ) (p : Passed) (read : HasRead s p.next p.ahead) (used : p.ahead.word ≡ 0) where
  -- where it holds none, no one more is counted up to its end
  pub count_used : count true (high_parts s) (p.ahead.position + p.ahead.len) ≡ p.next
  count_used = omega (arith, count_part (high_parts s) p.ahead.position p.ahead.len read.few, ap count_ones read.bits, ap count_ones used, ones_of_none, read.before)

module _ (s : List ℕ) (i : ℕ) (a : Ahead) (read : HasRead s i a) where
  -- up to its end are the ones of all elements before it and in it
  pub count_word : count true (high_parts s) (a.position + a.len) ≡ i + count_ones a.word
  count_word = omega (arith, count_part (high_parts s) a.position a.len read.few, ap count_ones read.bits, read.before)

  pub word_fits : (i + count_ones a.word ≤ a.position + a.len) × (a.position + a.len ≤ length (high_parts s))
  word_fits = (omega (arith, count_word, (count_le true (high_parts s) (a.position + a.len)).0), read.within)

  -- if so few zeros are before its end, all these elements have a lesser high part than v, and are below v
  pub word_passed : (v : ℕ) → IsNonDecreasing s → first_of s ≤ v → i ≤ below s v → a.position + a.len - (i + count_ones a.word) ≤ high_of s v → i + count_ones a.word ≤ below s v
  word_passed v up from before few = elim (cases_lt i (i + count_ones a.word)) [
    | inl more ↦
        let j : ℕ = i + count_ones a.word - 1 in
        let short : j < length s = omega (arith, count_word, more, (hold_high s up).ones, count_up true (high_parts s) (a.position + a.len) (length (high_parts s)) read.within) in
        let position : select true (high_parts s) j < a.position + a.len = select_below true (high_parts s) j (a.position + a.len) (omega (arith, count_word, more)) in
        omega (arith, more, lesser_below s v j up from short (omega (arith, position, (hold_high s up).position j short, few, more)))
    | inr none ↦ omega (arith, none, before)
  ]

  pub word_read : HasRead s (i + count_ones a.word) (record { position = a.position + a.len; len = 0; word = 0 })
  word_read = record { before = count_word; within = omega (arith, read.within); few = omega arith; bits = refl }

-- ---- what is read of the high parts

module _ {s : List ℕ} {high low : List Bool} {first last width : ℕ} (packed : IsPacked s high low first last width) where
  pub position_within : (p : ℕ) → p ≤ length (high_parts s) → p ≤ length high
  position_within p within = rw (high_same packed) within

  pub bits_read : (i p n w : ℕ) → count true (high_parts s) p ≡ i → part_number_or_zero high p n ≡ Some w → HasRead s i (record { position = p; len = n; word = w })
  bits_read i p n w before read = grind (arith, high_same, part_of)

  -- past the one of an element
  pub one_past : (i p : ℕ) → i < length s → p ≡ select true high i → (p + 1 ≤ length (high_parts s)) × (count true (high_parts s) (p + 1) ≡ i + 1)
  one_past i p h e =
      let counted : i < count true (high_parts s) (length (high_parts s)) = omega (arith, h, (hold_high s packed.ascending).ones) in
      let here : p ≡ select true (high_parts s) i = e ∙ ap (λ l. select true l i) (high_same packed) in
      (omega (arith, select_within true (high_parts s) i p counted here), counted_past true (high_parts s) i p counted here)

  -- the high part of an element, by the position of its one
  pub part_at : (i p : ℕ) → i < length s → p ≡ select true high i → p ≡ high_of s (slice_index s i) + i + 1
  part_at i p h e = e ∙ high_at i packed h

-- ---- the walk

pub none_passed : (s : List ℕ) (n : ℕ) → HasPassed s n (record { next = 0; ahead = record { position = 0; len = 0; word = 0 } })
none_passed s n = record { few = omega arith; read = record { before = count_none true (high_parts s); within = omega arith; few = omega arith; bits = refl } }

-- a number that isn't above the successor of a lesser one has it too
pub found_again : (s : List ℕ) (from v x : ℕ) → IsNonDecreasing s → Some x ≡ least_not_below s from → from ≤ v → v ≤ x → least_not_below s v ≡ Some x
found_again s from v x up found above within =
    let position : ℕ = below s from in
    let short : position < length s = slice_get_within s position x (sym (succ_is s from up) ∙ sym found) in
    let here : slice_index s position ≡ x = get_or_from_slice_get s position x 0 (sym (succ_is s from up) ∙ sym found) in
    let same : position ≡ below s v = omega (arith, below_up s from v above, below_to s v position up short (omega (arith, here, within))) in
    succ_at s v position up same short ∙ ap Some here

-- and if there is none, neither has a greater one
pub none_again : (s : List ℕ) (from v : ℕ) → IsNonDecreasing s → None ≡ least_not_below s from → from ≤ v → least_not_below s v ≡ None
none_again s from v up none above = elim (cases_lt (below s from) (length s)) [
  | inl some ↦ absurd (none-some (slice_index s (below s from)) (none ∙ succ_at s from (below s from) up refl some))
  | inr past ↦ succ_past s v up (omega (arith, past, below_up s from v above, below_le s v))
]

-- a number above the successor of a lesser one has more elements below it
pub more_below : (s : List ℕ) (from v x : ℕ) → IsNonDecreasing s → Some x ≡ least_not_below s from → x < v → below s from + 1 ≤ below s v
more_below s from v x up found above =
    let position : ℕ = below s from in
    let short : position < length s = slice_get_within s position x (sym (succ_is s from up) ∙ sym found) in
    let here : slice_index s position ≡ x = get_or_from_slice_get s position x 0 (sym (succ_is s from up) ∙ sym found) in
    below_from s v position up short (omega (arith, here, above))
