-- Offsets of the ones of a few bits, in a buffer that is read from its end.
use Rattle.vers_rank.proofs.Names.{zero, suc, ◌≡◌, ℕ, ◌+◌, ◌-◌, ◌*◌, ◌/◌, ◌%◌, ◌^◌, ◌<◌, ◌≤◌, Bool, true, false, cond, List, ◌∷◌, ◌++◌, map, filter, range_with_len, bytes_eq, ltb, ◌&&◌, and_parts, set, replicate, length, get_or, eqb, ne_eqb, refl, sym, ap, ◌∙◌, inl, inr, arith, count_ones, bit_and, bit_at, All, ltb-true, cases_eq, cases_Bool, agree_below_at, map-id, length-set, get_or-set_same, get_or-set_other, shr_and_one, length-zip2, length-put_chunk, length-chunk, get_or-zip2, get_or-replicate, get_or-put_chunk_at, get_or-put_chunk_below, chunk, put_chunk, zip2, last_first, ones_below, agree_below, ones}
use Rattle.std.proofs.lemmas.List.Elements.{All-filter, All-from_get_or, All-head, All-tail, filter-append}
use Rattle.std.proofs.lemmas.List.FromFn.{length-range_with_len, get_or-range_with_len}
use Rattle.std.proofs.lemmas.Slice.Eq.{bytes_eq-Decides}
use Rattle.vers_rank.proofs.Tables.{tried, tries}
use Rattle.vers_rank.proofs.Pairs.{digit_after, low_digit}
use Rattle.vers_rank.specs.declared.offsets.TheConstants.{OFFSETS}

-- ---- numbers that are read from the end
-- m numbers more, which are those of another list
pub last_first_more : (s t : ℕ) (xs ys : List ℕ) (k m : ℕ) → ((j : ℕ) → j < m → s + get_or xs (k + j) 0 ≡ t + get_or ys j 0) → last_first s xs (k + m) ≡ last_first t ys m ++ last_first s xs k
last_first_more s t xs ys k zero same = ap (last_first s xs) (let e : k + zero ≡ k = omega arith in e)
last_first_more s t xs ys k (suc m) same =
    let e : k + suc m ≡ suc (k + m) = omega arith in
    rw (e, same m (omega arith), last_first_more s t xs ys k m (λ j h. same j (omega arith))) refl

pub last_first_same : (s t : ℕ) (xs ys : List ℕ) (m : ℕ) → ((j : ℕ) → j < m → s + get_or xs j 0 ≡ t + get_or ys j 0) → last_first s xs m ≡ last_first t ys m
last_first_same s t xs ys zero same = refl
last_first_same s t xs ys (suc m) same = rw (same m (omega arith), last_first_same s t xs ys m (λ j h. same j (omega arith))) refl

pub last_first_from : (s : ℕ) (xs : List ℕ) (n : ℕ) → last_first s xs n ≡ map (λ x. s + x) (last_first 0 xs n)
last_first_from s xs zero = refl
last_first_from s xs (suc n) =
    let e : s + get_or xs n 0 ≡ s + (0 + get_or xs n 0) = omega arith in rw (last_first_from s xs n, e) refl

each_last_first : (P : ℕ → Type 0) (xs : List ℕ) (n : ℕ) → All P (last_first 0 xs n) → (j : ℕ) → j < n → P (0 + get_or xs j 0)
each_last_first P xs zero all j h = absurd (omega (arith, h))
each_last_first P xs (suc n) all j h = elim (cases_eq j n) [
  | inl same ↦ rw same (All-head P (0 + get_or xs n 0) (last_first 0 xs n) all)
  | inr other ↦ each_last_first P xs n (All-tail P (0 + get_or xs n 0) (last_first 0 xs n) all) j (omega (arith, other, h))
]

-- ---- positions of ones
range_below : (n : ℕ) → All (λ i. i < n) (range_with_len 0 n)
range_below n = All-from_get_or (λ i. i < n) (range_with_len 0 n) 0 (λ i h. let small : i < n = omega (arith, h, length-range_with_len 0 n) in omega (arith, small, get_or-range_with_len 0 n i 0 small))

-- the offsets in a buffer are among the bits
pub offset_below : (xs : List ℕ) (count n w : ℕ) → last_first 0 xs count ≡ ones_below n w → (j : ℕ) → j < count → get_or xs j 0 < n
offset_below xs count n w listed j h =
    let all : All (λ i. i < n) (last_first 0 xs count) = rw listed (All-filter (λ i. eqb (bit_at w i) 1) (λ i. i < n) (range_with_len 0 n) (range_below n)) in
    omega (arith, each_last_first (λ i. i < n) xs count all j h)

-- the positions that pass a test, by those d positions before that pass another
passing_from : (p q : ℕ → Bool) (f : ℕ → ℕ) (d a n : ℕ) → ((i : ℕ) → f i ≡ d + i) → ((i : ℕ) → a ≤ i → i < a + n → p (d + i) ≡ q i) → filter p (range_with_len (d + a) n) ≡ map f (filter q (range_with_len a n))
passing_from p q f d a zero shift same = refl
passing_from p q f d a (suc n) shift same =
    let next : d + a + 1 ≡ d + (a + 1) = omega arith in
    let rest = passing_from p q f d (a + 1) n shift (λ i low high. same i (omega arith) (omega arith)) in
    let here = same a (omega arith) (omega arith) in
    elim (cases_Bool (q a)) [ inl on ↦ rw (here, on, next, rest, shift a) refl | inr off ↦ rw (here, off, next) rest ]

-- the ones of 16 bits are those of the low byte, and those of the high byte 8 positions on
two_bytes : (c : ℕ) → ones_below 16 c ≡ ones_below 8 (c % 256) ++ map (λ i. 8 + i) (ones_below 8 (c / 256))
two_bytes c =
    let p : ℕ → Bool = λ i. eqb (bit_at c i) 1 in
    let low = passing_from p (λ i. eqb (bit_at (c % 256) i) 1) (λ i. i) 0 0 8 (λ i. omega arith) (λ i _ high. let e : 0 + i ≡ i = omega arith in rw (e, low_digit 8 c i high) refl) in
    let high = passing_from p (λ i. eqb (bit_at (c / 256) i) 1) (λ i. 8 + i) 8 0 8 (λ i. refl) (λ i _ high. rw (digit_after c 8 i) refl) in
    rw (filter-append p (range_with_len 0 8) (range_with_len 8 8), low, map-id, high) refl

-- ---- the table, of which each entry is tried
-- what the table holds for the byte v
abbrev entry : ℕ → List ℕ
entry v = chunk (8 * v) 8 OFFSETS

lists_ones : ℕ → List ℕ → Bool
lists_ones v entries = bytes_eq (last_first 0 entries (count_ones v)) (ones_below 8 v) && agree_below (λ j. ltb (get_or entries j 0) 8) (λ _. true) 8

entry_passes : (v : ℕ) → v < 256 → lists_ones v (entry v) ≡ true
unfolding lists_ones tries ones
entry_passes v h = tried lists_ones 256 v OFFSETS refl h

pub entry_listed : (v : ℕ) → v < 256 → last_first 0 (entry v) (count_ones v) ≡ ones_below 8 v
unfolding lists_ones
entry_listed v h = (bytes_eq-Decides (last_first 0 (entry v) (count_ones v)) (ones_below 8 v)).0 (and_parts _ _ (entry_passes v h)).0

pub entry_long : (v : ℕ) → v < 256 → length (entry v) ≡ 8
entry_long v h = length-chunk (8 * v) 8 OFFSETS (let size : length OFFSETS ≡ 2048 = refl in omega (arith, size))

pub entry_small : (v : ℕ) → v < 256 → (j : ℕ) → j < 8 → get_or (entry v) j 0 < 8
unfolding lists_ones
entry_small v h j small = ltb-true _ _ (agree_below_at (λ j. ltb (get_or (entry v) j 0) 8) (λ _. true) 8 j (and_parts _ _ (entry_passes v h)).1 small)

pub ruleset table = (entry_listed, entry_long)

-- ---- both bytes in one buffer
pub raised_long : (highs : List ℕ) → length highs ≡ 8 → length (zip2 (λ a b. (a + b) % 256) highs (replicate 8 8)) ≡ 8
raised_long highs long = length-zip2 (λ a b. (a + b) % 256) highs (replicate 8 8) long ∙ long

module _ (buffer highs lows : List ℕ) (c : ℕ) (room : length buffer ≡ 16) (long_high : length highs ≡ 8) (long_low : length lows ≡ 8) (small : (j : ℕ) → j < 8 → get_or highs j 0 < 8) (high_listed : last_first 0 highs (count_ones (c / 256)) ≡ ones_below 8 (c / 256)) (low_listed : last_first 0 lows (count_ones (c % 256)) ≡ ones_below 8 (c % 256)) (few_high : count_ones (c / 256) ≤ 8) (few_low : count_ones (c % 256) ≤ 8) where
  abbrev above : ℕ
  above = count_ones (c / 256)

  abbrev raised : List ℕ
  raised = zip2 (λ a b. (a + b) % 256) highs (replicate 8 8)

  raised_at : (j : ℕ) → j < 8 → get_or raised j 0 ≡ 8 + get_or highs j 0
  raised_at j h = get_or-zip2 (λ a b. (a + b) % 256) highs (replicate 8 8) j 0 0 0 (omega (arith, long_high, h)) h ∙ ap (λ b. (get_or highs j 0 + b) % 256) (get_or-replicate 8 j 8 0 h) ∙ omega (arith, small j h)

  abbrev first : List ℕ
  first = put_chunk 0 buffer raised

  abbrev filled : List ℕ
  filled = put_chunk above first lows

  high_at : (j : ℕ) → j < above → 0 + get_or filled j 0 ≡ 8 + get_or highs j 0
  high_at j h =
      let within : j < 8 = omega (arith, h, few_high) in
      let at = get_or-put_chunk_at 0 buffer raised j 0 (omega (arith, raised_long highs long_high, within)) (omega (arith, raised_long highs long_high, room)) in
      let position : 0 + j ≡ j = omega arith in
      omega (arith, get_or-put_chunk_below above first lows j 0 h, at, ap (λ k. get_or first k 0) position, raised_at j within)

  low_at : (j : ℕ) → j < count_ones (c % 256) → 0 + get_or filled (above + j) 0 ≡ 0 + get_or lows j 0
  low_at j h = omega (arith, get_or-put_chunk_at above first lows j 0 (omega arith) (omega (arith, length-put_chunk 0 buffer raised)))

  pub both_listed : last_first 0 filled (above + count_ones (c % 256)) ≡ ones_below 16 c
  both_listed =
      rw (last_first_more 0 0 filled lows above (count_ones (c % 256)) low_at, low_listed, last_first_same 0 8 filled highs above high_at, last_first_from 8 highs above, high_listed)
      (sym (two_bytes c))

-- ---- one by one
-- the offsets from number i on are in the buffer
abbrev pub IsListed : ℕ → ℕ → ℕ → ℕ → List ℕ → Type 0
IsListed w n i held buffer = (i ≤ n) × (held + i ≤ n) × (length buffer ≡ 16) × (last_first 0 buffer held ≡ filter (λ k. eqb (bit_at w k) 1) (range_with_len i (n - i)))

module _ (w n i held : ℕ) (buffer : List ℕ) (some : 0 < i) (is : IsListed w n i held buffer) where
  abbrev passing : ℕ → ℕ → List ℕ
  passing a m = filter (λ k. eqb (bit_at w k) 1) (range_with_len a m)

  before : passing (i - 1) (n - (i - 1)) ≡ cond (eqb (bit_at w (i - 1)) 1) ((i - 1) ∷ passing i (n - i)) (passing i (n - i))
  before =
      let more : n - (i - 1) ≡ suc (n - i) = omega (arith, some, is.0) in
      let next : i - 1 + 1 ≡ i = omega (arith, some) in
      rw (more, next) refl

  pub one_listed : n ≤ 16 → bit_and (w / 2 ^ (i - 1)) 1 ≡ 1 → IsListed w n (i - 1) (held + 1) (set buffer held (i - 1))
  one_listed few on =
      let one : bit_at w (i - 1) ≡ 1 = sym (shr_and_one w (i - 1)) ∙ on in
      let here : 0 + get_or (set buffer held (i - 1)) held 0 ≡ i - 1 = omega (arith, get_or-set_same buffer held (i - 1) 0 (omega (arith, is, few))) in
      let rest = last_first_same 0 0 (set buffer held (i - 1)) buffer held (λ j h. omega (arith, get_or-set_other buffer held j (i - 1) 0 (λ e. absurd (omega arith)))) in
      let next : held + 1 ≡ suc held = omega arith in
      (omega (arith, is.0), omega (arith, is.1), length-set buffer held (i - 1) ∙ is.2, rw (next, before, one, here, rest, is.3) refl)

  pub none_listed : (bit_and (w / 2 ^ (i - 1)) 1 ≡ 1 → ⊥) → IsListed w n (i - 1) held buffer
  none_listed off =
      let none : eqb (bit_at w (i - 1)) 1 ≡ false = ne_eqb (bit_at w (i - 1)) 1 (λ e. off (shr_and_one w (i - 1) ∙ e)) in
      (omega (arith, is.0), omega (arith, is.1), is.2, rw (before, none) is.3)
