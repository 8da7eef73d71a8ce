-- What an edit of the words does to the list that they have.
use Rattle.vers_bits.proofs.Names.{◌≡◌, ℕ, ◌+◌, ◌*◌, ◌/◌, ◌%◌, ◌^◌, ◌<◌, ◌≤◌, Bool, true, false, not, eqb, List, length, get_or, set, take, refl, sym, ap, ◌∙◌, arith, w64, bit_at, bit_not, bit_and, bit_or, bit_xor, cases_eq, get_or_default_zero, one_shl, bit_at-lt, bit_at_xor, bit_at-pow_same, bit_at-pow_other, bit_at_set_same, bit_at_set_other, bit_at_clear_same, bit_at_clear_other, get_or-take, get_or-set_same, get_or-set_other, length-take, length-set, limb_count, word_bit, word_bits, HoldsBits, AddsBit, CutsTo, Puts, agree_below_at, rules}
use Rattle.vers_bits.proofs.Words.{length-word_bits, get_or-word_bits, word_bits_are, take-word_bits, past_words, set_here, set_apart}
use Rattle.vers_bits.proofs.LowBits.{bit_at_mod, bit_at_mod_above}

-- ---- a cut

pub cut_bits : {ws vs : List ℕ} {m : ℕ} → CutsTo ws vs m → (n : ℕ) → m ≤ n → word_bits vs m ≡ take m (word_bits ws n)
cut_bits {ws} {vs} {m} cuts n h =
    word_bits_are vs m (word_bits ws m) (length-word_bits ws m) (λ i below. grind (arith, get_or-word_bits))
    ∙ sym (take-word_bits ws n m h)

pub cut_holds : {ws vs : List ℕ} {m : ℕ} → CutsTo ws vs m → m ≤ 18446744073709551552 → HoldsBits vs m
cut_holds {ws} {vs} {m} cuts h = record { counted = cuts.counted; bounded = h; padded = cuts.padded }

module _ (ws : List ℕ) (n : ℕ) (enough : limb_count n ≤ length ws) where
  pub cut_whole : n % 64 ≡ 0 → CutsTo ws (take (limb_count n) ws) n
  cut_whole whole = grind (arith, length-take, get_or-take, past_words)

  pub cut_part : 0 < n % 64 → CutsTo ws (set (take (limb_count n) ws) (n / 64) (get_or (take (limb_count n) ws) (n / 64) 0 % 2 ^ (n % 64))) n
  cut_part part = grind (arith, length-take, get_or-take, length-set, cases_eq, set_here, bit_at_mod, set_apart, bit_at_mod_above, past_words)

-- ---- a bit put at a position

pub put_bits : {ws vs : List ℕ} {p : ℕ} {b : Bool} → Puts ws vs p b → (n : ℕ) → p < n → word_bits vs n ≡ set (word_bits ws n) p b
put_bits {ws} {vs} {p} {b} puts n within =
    word_bits_are vs n (set (word_bits ws n) p b) (grind (arith, length-set, length-word_bits))
    (λ i h. grind (arith, cases_eq, get_or-set_same, length-word_bits, get_or-set_other, get_or-word_bits))

pub put_holds : {ws vs : List ℕ} {p : ℕ} {b : Bool} → Puts ws vs p b → (n : ℕ) → p < n → HoldsBits ws n → HoldsBits vs n
put_holds {ws} {vs} {p} {b} puts n within holds = grind arith

module _ (ws : List ℕ) (p x : ℕ) (b : Bool) (within : p / 64 < length ws) where
  -- by another word at its limb, with that bit otherwise the same
  puts_by : eqb (bit_at x (p % 64)) 1 ≡ b → ((i : ℕ) → i < 64 → (i ≡ p % 64 → ⊥) → bit_at x i ≡ bit_at (get_or ws (p / 64) 0) i)
      → Puts ws (set ws (p / 64) x) p b
  puts_by on off = grind (arith, length-set, set_here, cases_eq, set_apart)

module _ (ws : List ℕ) (p : ℕ) (within : p / 64 < length ws) where
  abbrev word : ℕ
  word = get_or ws (p / 64) 0

  pub puts_one : Puts ws (set ws (p / 64) (bit_or (get_or ws (p / 64) 0) (1 * 2 ^ (p % 64) % 2 ^ 64))) p true
  puts_one = puts_by ws p _ true within (ap (λ m. eqb m 1) (bit_at_set_same w64 word (p % 64) (omega arith))) (λ i h e. bit_at_set_other w64 word (p % 64) (omega arith) i e)

  pub puts_zero : Puts ws (set ws (p / 64) (bit_and (get_or ws (p / 64) 0) (bit_not w64 (1 * 2 ^ (p % 64) % 2 ^ 64)))) p false
  puts_zero = puts_by ws p _ false within (ap (λ m. eqb m 1) (bit_at_clear_same w64 word (p % 64) (omega arith))) (λ i h e. bit_at_clear_other w64 word (p % 64) (omega arith) i h e)

  pub puts_other : Puts ws (set ws (p / 64) (bit_xor (get_or ws (p / 64) 0) (1 * 2 ^ (p % 64) % 2 ^ 64))) p (not (word_bit ws p))
  puts_other =
      let one : 1 * 2 ^ (p % 64) % 2 ^ 64 ≡ 2 ^ (p % 64) = one_shl (p % 64) 64 (omega arith) in
      let digit = λ (i : ℕ). bit_at_xor word (1 * 2 ^ (p % 64) % 2 ^ 64) i ∙ ap (λ m. (bit_at word i + bit_at m i) % 2) one in
      search (rules, puts_by, bit_at-pow_same, agree_below_at, bit_at-pow_other, bit_at-lt)

-- ---- one bit more, in the last word

pub adds_by_set : (ws : List ℕ) (n w : ℕ) (b : Bool) → HoldsBits ws n → 0 < n % 64 → w ≡ get_or ws (n / 64) w → b ≡ true
    → AddsBit ws (set ws (n / 64) (bit_or w (1 * 2 ^ (n % 64) % 2 ^ 64))) n b
adds_by_set ws n w b holds part read on = grind (arith, puts_one, get_or_default_zero)

-- a false bit is there already
pub adds_by_none : (ws : List ℕ) (n : ℕ) (b : Bool) → HoldsBits ws n → 0 < n % 64 → b ≡ false → AddsBit ws ws n b
adds_by_none ws n b holds part off = rw off (record { counted = omega (arith, holds.counted); here = holds.padded n (omega arith); others = λ i other. refl })

pub ruleset steps = (adds_by_set, adds_by_none)

pub ruleset cuts = (cut_bits, cut_holds, length-word_bits)

pub ruleset puts = (put_bits, put_holds, get_or-word_bits, length-word_bits)
