-- The bits that words hold.
use Rattle.vers_bits.proofs.Names.{◌≡◌, ℕ, ◌+◌, ◌*◌, ◌/◌, ◌%◌, ◌^◌, ◌<◌, ◌≤◌, Bool, false, List, [], ◌∷◌, ◌++◌, length, take, drop, get_or, set, refl, sym, ap, ◌∙◌, arith, eqb, Some, None, bit_at, bit_and, cases_lt, bool_byte, bit_at-lt, bit_at-zero, bit_at_lowest, shr_and_one, same_from_bits_below, bit_at_above, ext_get_or, get_or-take, get_or-drop, get_or_past, get_or_push, get_or_append_left, get_or-set_same, get_or-set_other, length_push, length-take, length-map-range_with_len, get_or-map-range_with_len, take-map-range_with_len, map-range_with_len_more, slice_get-get_or, slice_get_past, bit_value, word_bit, HoldsBits, AddsBit, rules, slice_get, option_map, limb, word_bits}
use Rattle.vers_bits.proofs.Num.{bit_at-number, bit_value_le}
use Rattle.vers_bits.proofs.LowBits.{bit_value_test}
use Rattle.vers_bits.proofs.Gather.{number_below}

pub length-word_bits : (ws : List ℕ) (n : ℕ) → length (word_bits ws n) ≡ n
unfolding word_bits
length-word_bits ws n = length-map-range_with_len (word_bit ws) 0 n

pub get_or-word_bits : (ws : List ℕ) (n i : ℕ) (d : Bool) → i < n → get_or (word_bits ws n) i d ≡ word_bit ws i
unfolding word_bits
get_or-word_bits ws n i d h = get_or-map-range_with_len (word_bit ws) 0 n i i d h (omega arith)

pub take-word_bits : (ws : List ℕ) (n k : ℕ) → k ≤ n → take k (word_bits ws n) ≡ word_bits ws k
unfolding word_bits
take-word_bits ws n k h = take-map-range_with_len (word_bit ws) 0 n k h

-- the words have the list that they have position by position
pub word_bits_are : (ws : List ℕ) (n : ℕ) (l : List Bool) → length l ≡ n → ((i : ℕ) → i < n → word_bit ws i ≡ get_or l i false) → word_bits ws n ≡ l
word_bits_are ws n l e each =
    ext_get_or false (word_bits ws n) l (length-word_bits ws n ∙ sym e)
    (λ i h. let small : i < n = omega (arith, length-word_bits ws n) in get_or-word_bits ws n i false small ∙ each i small)

pub slice_get-word_bits : (ws : List ℕ) (n i : ℕ) → i < n
    → slice_get (word_bits ws n) i ≡ Some (eqb (bit_and (get_or ws (i / 64) 0 / 2 ^ (i % 64)) 1) 1)
slice_get-word_bits ws n i h =
    let short : i < length (word_bits ws n) = omega (arith, length-word_bits ws n) in
    rw shr_and_one (slice_get-get_or (word_bits ws n) i false short ∙ ap (λ b. Some b) (get_or-word_bits ws n i false h))

pub slice_get_past-word_bits : (ws : List ℕ) (n i : ℕ) → n ≤ i → slice_get (word_bits ws n) i ≡ None
slice_get_past-word_bits ws n i h = slice_get_past _ i (omega (arith, length-word_bits ws n))

pub bit_value_at-word_bits : (ws : List ℕ) (n i : ℕ) → i < n
    → option_map bit_value (slice_get (word_bits ws n) i) ≡ Some (bit_and (get_or ws (i / 64) 0 / 2 ^ (i % 64)) 1)
bit_value_at-word_bits ws n i h = grind (arith, slice_get-word_bits, shr_and_one, bit_value_test, bit_at-lt)

pub slice_index-word_bits : (ws : List ℕ) (n i : ℕ) → i < n → get_or (word_bits ws n) i false ≡ eqb (bit_and (get_or ws (i / 64) 0 / 2 ^ (i % 64)) 1) 1
slice_index-word_bits ws n i h = rw shr_and_one (get_or-word_bits ws n i false h)

pub bit_value_of-word_bits : (ws : List ℕ) (n i : ℕ) → i < n → bit_value (get_or (word_bits ws n) i false) ≡ bit_and (get_or ws (i / 64) 0 / 2 ^ (i % 64)) 1
bit_value_of-word_bits ws n i h = grind (arith, shr_and_one, get_or-word_bits, bit_value_test, bit_at-lt)

-- where one word was changed
pub set_here : (ws : List ℕ) (k x i : ℕ) → k < length ws → i / 64 ≡ k → word_bit (set ws k x) i ≡ eqb (bit_at x (i % 64)) 1
set_here ws k x i within same = rw (same, get_or-set_same ws k x 0 within) refl

pub set_apart : (ws : List ℕ) (k x i : ℕ) → (i / 64 ≡ k → ⊥) → word_bit (set ws k x) i ≡ word_bit ws i
set_apart ws k x i apart = ap (λ w. eqb (bit_at w (i % 64)) 1) (get_or-set_other ws k (i / 64) x 0 apart)

-- limb k is word k
bit_of_limb : (ws : List ℕ) (n k i : ℕ) → HoldsBits ws n → i < 64
    → bit_at (limb (word_bits ws n) k) i ≡ bit_at (get_or ws k 0) i
unfolding limb
bit_of_limb ws n k i holds small =
    let w : ℕ = get_or ws k 0 in
    let here : bit_value (word_bit ws (64 * k + i)) ≡ bit_at w i = ap bit_value (grind arith) ∙ bit_value_test (bit_at w i) (bit_at-lt w i) in
    let position : get_or (take 64 (drop (64 * k) (word_bits ws n))) i false ≡ get_or (word_bits ws n) (64 * k + i) false =
    get_or-take 64 (drop (64 * k) (word_bits ws n)) i false small ∙ get_or-drop (64 * k) (word_bits ws n) i false in
    grind (arith, bit_at-number, cases_lt, get_or-word_bits, get_or_past, length-word_bits)

pub limb-lt : (l : List Bool) (k : ℕ) → limb l k < 2 ^ 64
unfolding limb
limb-lt l k = number_below (take 64 (drop (64 * k) l)) 64 (omega (arith, length-take 64 (drop (64 * k) l)))

pub limb-word_bits : (ws : List ℕ) (n k : ℕ) → HoldsBits ws n → get_or ws k 0 < 2 ^ 64 → limb (word_bits ws n) k ≡ get_or ws k 0
limb-word_bits ws n k holds fits = search (rules, same_from_bits_below, limb-lt, bit_of_limb)

-- ---- one bit more

-- past the words each position is false
pub past_words : (ws : List ℕ) (i : ℕ) → 64 * length ws ≤ i → word_bit ws i ≡ false
past_words ws i h = grind (arith, get_or_past, bit_at-zero)

pub added_bits : {ws vs : List ℕ} {n : ℕ} {b : Bool} → AddsBit ws vs n b → word_bits vs (n + 1) ≡ word_bits ws n ++ b ∷ []
unfolding word_bits
added_bits {ws} {vs} {n} {b} adds =
    let same : word_bits vs n ≡ word_bits ws n = word_bits_are vs n (word_bits ws n) (length-word_bits ws n) (λ i h. grind (arith, get_or-word_bits)) in
    rw (map-range_with_len_more (word_bit vs) 0 n n (omega arith), adds.here) (ap (λ l. l ++ b ∷ []) same)

pub added_holds : {ws vs : List ℕ} {n : ℕ} {b : Bool} → AddsBit ws vs n b → HoldsBits ws n → n < 18446744073709551552 → HoldsBits vs (n + 1)
added_holds {ws} {vs} {n} {b} adds holds small = grind arith

-- by a new word
adds_by_number : (ws : List ℕ) (n : ℕ) (b : Bool) → HoldsBits ws n → n % 64 ≡ 0 → AddsBit ws (ws ++ bit_value b ∷ []) n b
adds_by_number ws n b holds whole =
    record {
      counted = omega (arith, length_push ws (bit_value b));
      here =
          let word : n / 64 ≡ length ws = omega arith in
          rw (whole, word, get_or_push ws (bit_value b) 0 (length ws) refl, bit_at_lowest) (grind arith);
      others = λ i other. grind (arith, cases_lt i n, cases_lt i (n + 64), get_or_append_left ws (bit_value b ∷ []) 0 (i / 64), bit_at_above (bit_value b) 1 (i % 64), bit_value_le b, get_or_push ws (bit_value b) 0 (i / 64), past_words ws i, past_words (ws ++ bit_value b ∷ []) i, length_push ws (bit_value b));
    }

pub adds_by_push : (ws vs : List ℕ) (n : ℕ) (b : Bool) → HoldsBits ws n → n % 64 ≡ 0 → vs ≡ ws ++ bool_byte b ∷ [] → AddsBit ws vs n b
adds_by_push ws vs n b holds whole e = let same : bool_byte b ≡ bit_value b = grind arith in rw (e, same) (adds_by_number ws n b holds whole)

pub ruleset words = (length-word_bits, slice_get-word_bits, slice_get_past-word_bits, bit_value_at-word_bits, slice_index-word_bits, bit_value_of-word_bits, limb-word_bits)
