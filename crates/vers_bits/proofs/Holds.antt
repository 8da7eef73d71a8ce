-- Words that have a list of bits: what an edit of the words does to the list.
use Rattle.vers_bits.proofs.Names.{◌≡◌, ℕ, ◌+◌, ◌-◌, ◌*◌, ◌/◌, ◌%◌, ◌^◌, ◌<◌, ◌≤◌, Bool, false, eqb, List, [], ◌∷◌, ◌++◌, length, get_or, set, take, replicate, refl, ◌∙◌, arith, bit_at, bit_or, cases_lt, cases_eq, shr-shr, pow_pos, bit_at-lt, bit_at_or, bit_at_above, bit_at_cat_low, bit_at_cat_high, bit_at-zero, get_or_past, get_or_push, get_or_append_left, get_or-append_right, length-append, length-replicate, get_or-replicate, length_push, length-set, take_all, low_bits, limb_count, word_bit, word_bits, HoldsBits, Holds}
use Rattle.vers_bits.proofs.Words.{length-word_bits, get_or-word_bits, word_bits_are, past_words, set_here, set_apart}
use Rattle.vers_bits.proofs.LowBits.{length-low_bits, get_or-low_bits, bit_at_mod, bit_value_test}

pub held_bits : {ws : List ℕ} {n : ℕ} {l : List Bool} → Holds ws n l → word_bits ws n ≡ l
held_bits {ws} {n} {l} holds = word_bits_are ws n l holds.long (λ i h. holds.each i)

pub held : {ws : List ℕ} {n : ℕ} {l : List Bool} → Holds ws n l → HoldsBits ws n
held {ws} {n} {l} holds = record {
  counted = holds.counted;
  bounded = holds.bounded;
  padded = λ i h. holds.each i ∙ get_or_past l i false (omega (arith, holds.long));
}

same_default : {X : Type 0} (k i : ℕ) (d : X) → get_or (replicate k d) i d ≡ d
same_default k i d = grind (arith, get_or-replicate, get_or_past, length-replicate)

-- a position with a zero has one with more words of zeros, too
zeros_past : (ws : List ℕ) (k i : ℕ) → word_bit ws i ≡ false → word_bit (ws ++ replicate k 0) i ≡ false
zeros_past ws k i off = grind (arith, get_or_append_left, get_or-append_right, same_default, bit_at-zero)

module _ (ws : List ℕ) (n v k : ℕ) (holds : HoldsBits ws n) (small : v < 2 ^ k) where
  -- the list with the low k digits of v after it, position by position
  grown : List Bool
  grown = word_bits ws n ++ low_bits v k

  below : (i : ℕ) → i < n → get_or grown i false ≡ word_bit ws i
  unfolding grown
  below i h = get_or_append_left (word_bits ws n) (low_bits v k) false i (omega (arith, length-word_bits ws n)) ∙ get_or-word_bits ws n i false h

  above : (i : ℕ) → n ≤ i → get_or grown i false ≡ eqb (bit_at v (i - n)) 1
  unfolding grown
  above i h = grind (arith, get_or-append_right, length-word_bits, get_or-low_bits, get_or_past, length-low_bits, bit_at_above)

  length-grown : length grown ≡ n + k
  unfolding grown
  length-grown = length-append (word_bits ws n) (low_bits v k) ∙ omega (arith, length-word_bits ws n, length-low_bits v k)

  -- words that agree with the old ones below n, and with the digits of v from there on
  hold_grown : (vs : List ℕ) → length vs ≡ limb_count (n + k) → n + k ≤ 18446744073709551552
      → ((i : ℕ) → i < n → word_bit vs i ≡ word_bit ws i) → ((i : ℕ) → n ≤ i → word_bit vs i ≡ eqb (bit_at v (i - n)) 1)
      → Holds vs (n + k) (word_bits ws n ++ low_bits v k)
  unfolding grown
  hold_grown vs counted bounded early late = record {
    long = length-grown;
    counted = counted;
    bounded = bounded;
    each = λ i. grind (arith, cases_lt i n, early i, below i, late i, above i);
  }

  past_number : (vs : List ℕ) (i : ℕ) → n ≤ i → k ≤ i - n → 64 * length vs ≤ i → word_bit vs i ≡ eqb (bit_at v (i - n)) 1
  past_number vs i h past end = rw (past_words vs i end, bit_at_above v k (i - n) small past) refl

  -- by a word of their own, where the last word is full
  pub added_word : n % 64 ≡ 0 → 0 < k → k ≤ 64 → n + k ≤ 18446744073709551552 → Holds (ws ++ v ∷ []) (n + k) (word_bits ws n ++ low_bits v k)
  added_word whole some few bounded =
      let full : n ≡ 64 * length ws = omega (arith, holds.counted) in
      hold_grown (ws ++ v ∷ []) (length_push ws v ∙ omega (arith, holds.counted)) bounded
      (λ i h. rw (get_or_append_left ws (v ∷ []) 0 (i / 64) (omega arith)) refl)
      (λ i h. grind (arith, full, cases_lt i (n + 64), get_or_push ws v 0 (i / 64), past_number (ws ++ v ∷ []) i h, length_push ws v))

  -- the last word with the digits put above its own
  last_word : ℕ
  last_word = bit_or (get_or ws (n / 64) 0) (v * 2 ^ (n % 64) % 2 ^ 64)

  last_word_low : (i : ℕ) → i < 64 → i < n % 64 → bit_at last_word i ≡ bit_at (get_or ws (n / 64) 0) i
  unfolding last_word
  last_word_low i h low =
      grind (arith, bit_at_or (get_or ws (n / 64) 0), bit_at_mod (v * 2 ^ (n % 64)) 64 i h, bit_at_cat_low v (n % 64) 0 i low, bit_at-zero i)

  last_word_high : (i : ℕ) → i < 64 → n % 64 ≤ i → bit_at last_word i ≡ bit_at v (i - n % 64)
  unfolding last_word
  last_word_high i h high =
      let shifted : v * 2 ^ (n % 64) ≡ v * 2 ^ (n % 64) + 0 = omega arith in
      let word : (64 * (n / 64) + i) / 64 ≡ n / 64 = omega arith in
      let position : (64 * (n / 64) + i) % 64 ≡ i = omega arith in
      let off : eqb (bit_at (get_or ws (n / 64) 0) i) 1 ≡ false = rw (word, position) at (holds.padded (64 * (n / 64) + i) (omega arith)) in
      let none : bit_at (get_or ws (n / 64) 0) i ≡ 0 = grind (arith, bit_value_test, bit_at-lt) in
      rw (bit_at_or, none, bit_at_mod (v * 2 ^ (n % 64)) 64 i h, shifted, bit_at_cat_high v (n % 64) 0 i (omega (arith, pow_pos (n % 64))) high) (omega arith)

  -- any words that begin with the old ones, with the last word so changed, agree up to its end
  set_early : (zs : List ℕ) → 0 < n % 64 → n / 64 < length zs → ((j : ℕ) → j < length ws → get_or zs j 0 ≡ get_or ws j 0)
      → (i : ℕ) → i < n → word_bit (set zs (n / 64) last_word) i ≡ word_bit ws i
  set_early zs part within same i h = grind (arith, cases_eq (i / 64) (n / 64), set_here zs (n / 64) last_word i, last_word_low (i % 64), set_apart zs (n / 64) last_word i, same (i / 64), holds.counted)

  set_late : (zs : List ℕ) → n / 64 < length zs → (i : ℕ) → n ≤ i → i / 64 ≡ n / 64
      → word_bit (set zs (n / 64) last_word) i ≡ eqb (bit_at v (i - n)) 1
  set_late zs within i h here = grind (arith, set_here zs (n / 64) last_word i within here, last_word_high (i % 64))

  -- within the last word
  pub added_inside : 0 < n % 64 → n % 64 + k ≤ 64 → n + k ≤ 18446744073709551552
      → Holds (set ws (n / 64) (bit_or (get_or ws (n / 64) 0) (v * 2 ^ (n % 64) % 2 ^ 64))) (n + k) (word_bits ws n ++ low_bits v k)
  unfolding last_word
  added_inside part few bounded =
      let within : n / 64 < length ws = omega (arith, holds.counted) in
      let vs = set ws (n / 64) last_word in
      let long : length vs ≡ length ws = length-set ws (n / 64) last_word in
      hold_grown vs (long ∙ omega (arith, holds.counted)) bounded (set_early ws part within (λ j h. refl))
      (λ i h. grind (arith, long, cases_eq (i / 64) (n / 64), set_late ws within i h, past_number vs i h, holds.counted))

  -- over the last word and a new one
  pub added_across : 0 < n % 64 → 64 < n % 64 + k → k ≤ 64 → n + k ≤ 18446744073709551552
      → Holds (set (ws ++ v / 2 ^ (64 - n % 64) ∷ []) (n / 64) (bit_or (get_or ws (n / 64) 0) (v * 2 ^ (n % 64) % 2 ^ 64))) (n + k) (word_bits ws n ++ low_bits v k)
  unfolding last_word
  added_across part many few bounded =
      let high : ℕ = v / 2 ^ (64 - n % 64) in
      let zs = ws ++ high ∷ [] in
      let within : n / 64 < length zs = omega (arith, holds.counted, length_push ws high) in
      let vs = set zs (n / 64) last_word in
      let long : length vs ≡ length ws + 1 = length-set zs (n / 64) last_word ∙ length_push ws high in
      hold_grown vs (long ∙ omega (arith, holds.counted)) bounded (set_early zs part within (λ j h. get_or_append_left ws (high ∷ []) 0 j h))
      (λ i h. grind (arith, long, cases_eq (i / 64) (n / 64), cases_eq (i / 64) (n / 64 + 1), set_late zs within i h, set_apart zs (n / 64) last_word i, get_or_push ws high 0 (i / 64), shr-shr v (64 - n % 64) (i % 64), past_number vs i h, holds.counted))

-- zeros after the list, in as many words as they fill
pub added_zeros : (ws : List ℕ) (n k : ℕ) → HoldsBits ws n → n + k ≤ 18446744073709551552
    → Holds (ws ++ replicate (limb_count (n + k) - length ws) 0) (n + k) (word_bits ws n ++ replicate k false)
added_zeros ws n k holds bounded =
    let more : List ℕ = replicate (limb_count (n + k) - length ws) 0 in
    let rest : List Bool = replicate k false in
    record {
      long = length-append (word_bits ws n) rest ∙ omega (arith, length-word_bits ws n, length-replicate k false);
      counted = length-append ws more ∙ omega (arith, length-replicate {A = ℕ} (limb_count (n + k) - length ws) 0, holds.counted);
      bounded = bounded;
      each = λ i. grind (arith, cases_lt i n, get_or_append_left ws more 0 (i / 64), get_or_append_left (word_bits ws n) rest false i, length-word_bits ws n, get_or-word_bits ws n i false, holds.counted, zeros_past ws (limb_count (n + k) - length ws) i, holds.padded i, get_or-append_right (word_bits ws n) rest n i false, same_default k (i - n) false);
    }

-- the same, as a list of words that was resized
pub resized : (ws vs : List ℕ) (n k m long : ℕ) → HoldsBits ws n → n + k ≤ 18446744073709551552 → m ≡ limb_count (n + k) → long ≡ length ws
    → vs ≡ take m ws ++ replicate (m - long) 0 → Holds vs (n + k) (word_bits ws n ++ replicate k false)
resized ws vs n k m long holds bounded all counted e =
    let whole : take (limb_count (n + k)) ws ≡ ws = take_all (limb_count (n + k)) ws (omega (arith, holds.counted)) in
    rw (e, all, counted, whole) (added_zeros ws n k holds bounded)
