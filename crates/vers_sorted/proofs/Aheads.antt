-- The ones of the high parts that were read ahead.
use Rattle.vers_sorted.proofs.Names.{◌≡◌, ℕ, ◌+◌, ◌-◌, ◌/◌, ◌^◌, ◌<◌, ◌≤◌, Bool, true, false, List, length, take, drop, get_or, sym, ap, ◌∙◌, arith, Option, Some, None, w64, unwrap_or, trailing_zeros, IsNonDecreasing, pow-le-pow_right, get_or_past, length-take, drop-take, drop-drop, shr-shr, bit_at-trailing_zeros, number, count, select, bit_at-number, number-lt, number-drop, select_at, count_at_select, count_more_yes, part_bit, value_none, value_one, part_number_or_zero, high_parts, high_position, IsPacked, rules}
use Rattle.vers_sorted.specs.declared.elias_fano.ahead.Ahead.{Ahead}
use Rattle.vers_sorted.specs.inside.Ahead.{HasRead, IsAhead}
use Rattle.vers_sorted.proofs.Holds.{hold_high}
use Rattle.vers_sorted.proofs.Packed.{high_same}
use Rattle.vers_sorted.proofs.Scans.{count_stays, part_of, counted_past}

module _ (l : List Bool) (p n : ℕ) (within : p + n ≤ length l) (few : n ≤ 64) (some : 0 < number (take n (drop p l))) where
  pub small : number (take n (drop p l)) < 18446744073709551616
  small = search (rules, length-take, number-lt, pow-le-pow_right)

  -- the lowest one of the number is within the part, and no position before it has a one
  pub lowest : (trailing_zeros w64 (number (take n (drop p l))) < n)
      × (get_or l (p + trailing_zeros w64 (number (take n (drop p l)))) false ≡ true)
      × (count true l (p + trailing_zeros w64 (number (take n (drop p l)))) ≡ count true l p)
  lowest =
      let t : ℕ = trailing_zeros w64 (number (take n (drop p l))) in
      let found = bit_at-trailing_zeros w64 (number (take n (drop p l))) some small in
      let low : t < n = grind (arith, get_or_past, length-take, bit_at-number) in (
        low,
        value_one (get_or l (p + t) false) (sym (part_bit l p n t low) ∙ found.1),
        count_stays true l p t (omega arith) (λ i less. value_none (get_or l (p + i) false) (sym (part_bit l p n i (omega arith)) ∙ found.2 i less)),
      )

  -- what is left of the part past a position of it
  rest : (t : ℕ) → t < n → number (take n (drop p l)) / 2 ^ t / 2 ^ 1 ≡ number (take (n - (t + 1)) (drop (p + (t + 1)) l))
  rest t low =
      let e : n ≡ t + 1 + (n - (t + 1)) = omega arith in
      let past : number (take n (drop p l)) / 2 ^ t / 2 ^ 1 ≡ number (take n (drop p l)) / 2 ^ (t + 1) = shr-shr (number (take n (drop p l))) t 1 in
      rw (past, ← number-drop (t + 1) (take n (drop p l)), e) (rw (drop-take, drop-drop) (grind arith))

-- ---- a step

module _ (s : List ℕ) (i : ℕ) (a : Ahead) (up : IsNonDecreasing s) (read : HasRead s i a) (some : 0 < a.word) where
  one_left : 0 < number (take a.len (drop a.position (high_parts s)))
  one_left = omega (arith, read.bits)

  same_zeros : trailing_zeros w64 a.word ≡ trailing_zeros w64 (number (take a.len (drop a.position (high_parts s))))
  same_zeros = ap (trailing_zeros w64) read.bits

  pub step_fits : trailing_zeros w64 a.word + 1 ≤ a.len
  step_fits = omega (arith, same_zeros, (lowest (high_parts s) a.position a.len read.within read.few one_left).0)

  pub step_position : i < length s → a.position + trailing_zeros w64 a.word ≡ high_position s i
  step_position h =
      let found = lowest (high_parts s) a.position a.len read.within read.few one_left in
      let t : ℕ = trailing_zeros w64 (number (take a.len (drop a.position (high_parts s)))) in
      let at : select true (high_parts s) i ≡ a.position + t =
      select_at true (high_parts s) i (a.position + t) (omega (arith, found.0, read.within)) found.1 (found.2 ∙ read.before) in
      omega (arith, same_zeros, at, (hold_high s up).position i h)

  pub step_read : (b : Ahead) → b.position ≡ a.position + (trailing_zeros w64 a.word + 1) → b.len ≡ a.len - (trailing_zeros w64 a.word + 1)
      → b.word ≡ a.word / 2 ^ trailing_zeros w64 a.word / 2 ^ 1 → HasRead s (i + 1) b
  step_read b position len word =
      let found = lowest (high_parts s) a.position a.len read.within read.few one_left in
      let t : ℕ = trailing_zeros w64 (number (take a.len (drop a.position (high_parts s)))) in
      let t_is : trailing_zeros w64 a.word ≡ t = same_zeros in
      let low : t < a.len = found.0 in
      let past : a.position + (t + 1) ≡ a.position + t + 1 = omega arith in
      grind (arith, lowest, one_left, same_zeros, count_more_yes, rest)

-- ---- the bits after an element's one

pub read_after : {s : List ℕ} {high low : List Bool} {first last width : ℕ} (i p n w : ℕ) → IsPacked s high low first last width → i < length s → p ≡ select true high i
    → part_number_or_zero high (p + 1) n ≡ Some w → HasRead s (i + 1) (record { position = p + 1; len = n; word = w })
read_after {s} {high} i p n w packed h e read = grind (arith, high_same, hold_high, part_of, counted_past)

pub read_maybe : {s : List ℕ} {high low : List Bool} {first last width : ℕ} (i p n w : ℕ) (o : Option ℕ) → IsPacked s high low first last width → i < length s → p ≡ select true high i
    → o ≡ part_number_or_zero high (p + 1) n → w ≡ unwrap_or o 0 → IsAhead s (i + 1) (record { position = p + 1; len = n; word = w })
read_maybe i p n w None packed h e read is some = absurd (omega (arith, is, some))
read_maybe i p n w (Some v) packed h e read is some = rw is (read_after i p n v packed h e (sym read))

pub position_fits : {s : List ℕ} {high low : List Bool} {first last width : ℕ} (i : ℕ) → IsPacked s high low first last width → i < length s → select true high i < length high
position_fits {s} {high} i packed h = (count_at_select true high i (omega (arith, packed.high_parts.ones))).0

pub ruleset steps = (high_same, step_fits, step_position, position_fits)
