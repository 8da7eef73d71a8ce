-- The ones of all bytes of a word at once.
use Rattle.vers_rank.proofs.Names.{◌&&◌, Bool, and_parts, zero, suc, ap, sym, ◌∙◌, ◌+◌, ◌/◌, inl, inr, ◌≡◌, ℕ, ◌-◌, ◌*◌, ◌%◌, ◌^◌, ◌<◌, ◌≤◌, true, refl, arith, eqb, leb, count_ones, bit_and, and_mask, and_block, and_le_l, and_le_r, ones_cat, mod-mul-add, shr-shr, cases_lt, ◌⊎◌, cases_eq, agree_below_at, eqb-true, leb-true, ones}
use Rattle.std.proofs.Math.Nat.{div-div-eq-div-mul}
use Rattle.vers_rank.specs.inside.ByteOnes.{byte_ones, ones_below_byte, ones_through_bytes}
use Rattle.vers_rank.proofs.Words.{ones_few, ones_split, masked_byte}

-- n bytes m
bytes_of : ℕ → ℕ → ℕ
bytes_of zero m = 0
bytes_of (suc n) m = bytes_of n m * 256 + m

-- the three steps, each with its mask
abbrev pairs : ℕ → ℕ → ℕ
pairs m w = w - bit_and (w / 2) m

abbrev fours : ℕ → ℕ → ℕ
fours m w = bit_and w m + bit_and (w / 4) m

abbrev eights : ℕ → ℕ → ℕ
eights m w = bit_and (w + w / 16) m

-- what comes down from the byte above, above the low k bits, is masked away
carried : (k w a c x m s : ℕ) → w ≡ a * 256 + (c * 2 ^ k + x) → c * 2 ^ k + x < 256 → x < 2 ^ k → s < 2 ^ k → s < 256 → bit_and w (m * 256 + s) ≡ bit_and a m * 256 + bit_and x s
carried k w a c x m s e fits low mask byte =
    let all : 0 * 2 ^ k + s ≡ s = omega arith in
    let none : bit_and c 0 ≡ 0 = omega (arith, and_le_r) in
    omega (arith, rw (← e) at (and_block 8 a m (c * 2 ^ k + x) s fits byte), rw (all, none) at (and_block k c 0 x s low mask))

pairs_next : (m a b : ℕ) → b < 256 → pairs (m * 256 + 85) (a * 256 + b) ≡ pairs m a * 256 + pairs 85 b
pairs_next m a b h =
    omega (arith, carried 7 ((a * 256 + b) / 2) (a / 2) (a % 2) (b / 2) m 85 (omega arith) (omega arith) (omega arith) (omega arith) (omega arith), and_le_l (a / 2) m, and_le_l (b / 2) 85)

fours_next : (m a b : ℕ) → b < 256 → fours (m * 256 + 51) (a * 256 + b) ≡ fours m a * 256 + fours 51 b
fours_next m a b h =
    omega (arith, carried 6 ((a * 256 + b) / 4) (a / 4) (a % 4) (b / 4) m 51 (omega arith) (omega arith) (omega arith) (omega arith) (omega arith), and_block 8 a m b 51 h (omega arith))

eights_next : (m a b : ℕ) → a % 16 ≤ 4 → b ≤ 68 → eights (m * 256 + 15) (a * 256 + b) ≡ eights m a * 256 + eights 15 b
eights_next m a b ha hb =
    let sum = b + b / 16 in
    let low = carried 4 (a * 256 + b + (a * 256 + b) / 16) (a + a / 16) (a % 16 + sum / 16) (sum % 16) m 15 (omega arith) (omega arith) (omega arith) (omega arith) (omega arith) in
    omega (arith, low, and_mask sum 4, and_mask (sum % 16) 4)

-- the steps at one byte, which are tried at each: half of a byte is at most 4 after two
of_byte : (b : ℕ) → b < 256 → (eights 15 (fours 51 (pairs 85 b)) ≡ count_ones b) × (fours 51 (pairs 85 b) % 16 ≤ 4) × (fours 51 (pairs 85 b) ≤ 68)
unfolding ones
of_byte b h =
    let test : ℕ → Bool = λ b. eqb (eights 15 (fours 51 (pairs 85 b))) (count_ones b) && (leb (fours 51 (pairs 85 b) % 16) 4 && leb (fours 51 (pairs 85 b)) 68) in
    let passed = and_parts _ _ (agree_below_at test (λ _. true) 256 b refl h) in
    let few = and_parts _ _ passed.1 in
    (eqb-true _ _ passed.0, leb-true _ _ few.0, leb-true _ _ few.1)

-- after two steps
abbrev halves_of_bytes : ℕ → ℕ → ℕ
halves_of_bytes n w = fours (bytes_of n 51) (pairs (bytes_of n 85) w)

halves_next : (n w : ℕ) → halves_of_bytes (suc n) w ≡ halves_of_bytes n (w / 256) * 256 + fours 51 (pairs 85 (w % 256))
unfolding bytes_of
halves_next n w =
    let parts : w / 256 * 256 + w % 256 ≡ w = omega arith in
    rw (rw parts at (pairs_next (bytes_of n 85) (w / 256) (w % 256) (omega arith))) (fours_next _ _ _ (omega arith))

halves_few : (n w : ℕ) → halves_of_bytes n w % 16 ≤ 4
unfolding bytes_of
halves_few zero w = omega (arith, and_le_r)
halves_few (suc n) w = omega (arith, halves_next n w, of_byte (w % 256) (omega arith))

steps_bytes : (n w : ℕ) → eights (bytes_of n 15) (halves_of_bytes n w) ≡ byte_ones n w
unfolding bytes_of byte_ones
steps_bytes zero w = omega (arith, and_le_r)
steps_bytes (suc n) w =
    let low = of_byte (w % 256) (omega arith) in
    rw (halves_next n w, eights_next (bytes_of n 15) _ _ (halves_few n (w / 256)) low.2, steps_bytes n (w / 256), low.0) refl

-- the steps as a word's
pub counted_bytes : (w : ℕ)
    → bit_and (bit_and (w - bit_and (w / 2) 6148914691236517205) 3689348814741910323 + bit_and ((w - bit_and (w / 2) 6148914691236517205) / 4) 3689348814741910323 + (bit_and (w - bit_and (w / 2) 6148914691236517205) 3689348814741910323 + bit_and ((w - bit_and (w / 2) 6148914691236517205) / 4) 3689348814741910323) / 16) 1085102592571150095 ≡ byte_ones 8 w
unfolding bytes_of
counted_bytes w = steps_bytes 8 w

pub ruleset steps = (counted_bytes, and_le_l, and_le_r)

-- ---- the sums of the bytes up to each

pub spread_sums : (w : ℕ) → byte_ones 8 w * 72340172838076673 % 18446744073709551616 ≡ ones_through_bytes w
unfolding byte_ones ones_through_bytes
spread_sums w =
    simp div-div-eq-div-mul
    (omega (arith, ones_split w 8 8, ones_split w 16 8, ones_split w 24 8, ones_split w 32 8, ones_split w 40 8, ones_split w 48 8, ones_split w 56 8, ones_few w 64))

pub ruleset sums = (spread_sums)

-- ---- how many of the sums a number reaches

top_bit : (d : ℕ) → d < 256 → count_ones (bit_and d 128) ≡ d / 128
unfolding ones
top_bit d h = eqb-true _ _ (agree_below_at (λ d. eqb (count_ones (bit_and d 128)) (d / 128)) (λ _. true) 256 d refl h)

-- n bytes, the lowest of them number a
packed : (ℕ → ℕ) → ℕ → ℕ → ℕ
packed f a zero = 0
packed f a (suc n) = packed f (a + 1) n * 256 + f a

-- byte number s has one number r of a word
abbrev pub IsByteWith : ℕ → ℕ → ℕ → Type 0
IsByteWith w r s = (s < 8) × (count_ones (w % 2 ^ (8 * s)) ≤ r) × (r < count_ones (w % 2 ^ (8 * s + 8)))

-- the ones below each byte
more_below : (w i : ℕ) → ones_below_byte w i ≤ ones_below_byte w (i + 1)
more_below w i = let e : 8 * (i + 1) ≡ 8 * i + 8 = omega arith in rw e (omega (arith, ones_split w (8 * i) 8))

module _ (w r : ℕ) (inside : r < count_ones (w % 2 ^ 64)) where
  pub small_number : r < 64
  small_number = omega (arith, ones_few w 64)

  abbrev below : ℕ → ℕ
  below i = 128 + r - ones_below_byte w i

  -- how many of n sums from number a on the number reaches
  reaching : ℕ → ℕ → ℕ
  reaching a zero = 0
  reaching a (suc n) = reaching (a + 1) n + below a / 128

  minus_sums : (a n : ℕ) → a + n ≤ 9 → packed below a n + packed (ones_below_byte w) a n ≡ bytes_of n (128 + r)
  unfolding packed bytes_of
  minus_sums a zero h = refl
  minus_sums a (suc n) h = omega (arith, minus_sums (a + 1) n (omega arith), ones_few w (8 * a))

  top_bits : (a n : ℕ) → count_ones (bit_and (packed below a n) (bytes_of n 128)) ≡ reaching a n
  unfolding packed bytes_of reaching ones
  top_bits a zero = refl
  top_bits a (suc n) =
      let low : below a < 256 = omega (arith, small_number) in
      rw (and_block 8 (packed below (a + 1) n) (bytes_of n 128) (below a) 128 low (omega arith))
      (omega (arith, ones_cat 8 (bit_and (packed below (a + 1) n) (bytes_of n 128)) (bit_and (below a) 128) (omega (arith, and_le_r)), top_bits (a + 1) n, top_bit (below a) low))

  -- those that are reached come first
  reached_first : (a n : ℕ) → a + n ≤ 9 → (reaching a n ≤ n) × ((i : ℕ) → a ≤ i → i < a + n → (i < a + reaching a n → ones_below_byte w i ≤ r) × (a + reaching a n ≤ i → r < ones_below_byte w i))
  unfolding reaching
  reached_first a zero h = (omega arith, λ i from to. absurd (omega arith))
  reached_first a (suc n) h =
      let rest = reached_first (a + 1) n (omega arith) in
      let next : (reaching (a + 1) n ≡ 0) ⊎ (ones_below_byte w (a + 1) ≤ r) =
      grind (arith, cases_lt 0 (reaching (a + 1) n), rest.0, rest.1 (a + 1)) in
      (omega (arith, small_number, rest.0), λ i from to. grind (arith, cases_eq i a, more_below w a, small_number, rest.1 i))

pub reached : (w r : ℕ) → r < count_ones (w % 2 ^ 64) → IsByteWith w r (count_ones (bit_and (r * 72340172838076673 + 9259542123273814144 - ones_through_bytes w) 9259542123273814144))
unfolding bytes_of ones_through_bytes packed
reached w r h =
    let s = reaching w r h 1 8 in
    let minus : r * 72340172838076673 + 9259542123273814144 - ones_through_bytes w ≡ packed (below w r h) 1 8 = omega (arith, minus_sums w r h 1 8 (omega arith)) in
    let is : count_ones (bit_and (r * 72340172838076673 + 9259542123273814144 - ones_through_bytes w) 9259542123273814144) ≡ s = rw minus (top_bits w r h 1 8) in
    let first = reached_first w r h 1 8 (omega arith) in
    let next : 8 * (s + 1) ≡ 8 * s + 8 = omega arith in
    rw (is, ← next) (grind (arith, h, cases_lt 0 s, cases_lt s 8, first.0, first.1 8, first.1 s, first.1 (s + 1), ones_few w (8 * s)))

pub through_few : (w : ℕ) → ones_through_bytes w ≤ 4629771061636907072
unfolding ones_through_bytes
through_few w = omega (arith, ones_few w)

pub ruleset bytes = (reached, through_few, small_number)

-- ---- one of the sums

-- byte number k of packed numbers
byte_at : (f : ℕ → ℕ) (a n k : ℕ) → ((i : ℕ) → i ≤ 8 → f i ≤ 64) → k < n → a + n ≤ 9 → packed f a n / 2 ^ (8 * k) % 256 ≡ f (a + k)
unfolding packed
byte_at f a zero k few h within = absurd (omega arith)
byte_at f a (suc n) zero few h within = let position : a + 0 ≡ a = omega arith in rw position (omega (arith, few a (omega arith)))
byte_at f a (suc n) (suc k) few h within =
    let power : 8 * suc k ≡ 8 + 8 * k = omega arith in
    let rest : (packed f (a + 1) n * 256 + f a) / 256 ≡ packed f (a + 1) n = omega (arith, few a (omega arith)) in
    let next : a + suc k ≡ a + 1 + k = omega arith in
    rw (power, ← shr-shr _ 8 (8 * k), rest, next) (byte_at f (a + 1) n k few (omega arith) (omega arith))

pub part_of : (w k : ℕ) → k < 8 → ones_through_bytes w * 256 % 18446744073709551616 / 2 ^ (8 * k) % 256 ≡ count_ones (w % 2 ^ (8 * k))
unfolding ones_through_bytes packed
part_of w k h =
    let shifted : ones_through_bytes w * 256 % 18446744073709551616 ≡ packed (ones_below_byte w) 0 8 = omega (arith, ones_few w) in
    let position : 0 + k ≡ k = omega arith in
    rw shifted (rw position at (byte_at (ones_below_byte w) 0 8 k (λ i low. omega (arith, ones_few w (8 * i))) h (omega arith)))

pub ruleset parts = (part_of, masked_byte)
