-- Rows of bits, each from a whole word on.
use Rattle.vers_saved.proofs.Names.{◌≡◌, ℕ, zero, suc, ◌+◌, ◌-◌, ◌*◌, ◌%◌, ◌^◌, ◌<◌, ◌≤◌, ◌&&◌, ◌⊎◌, true, List, get_or, refl, ap, inl, inr, arith, cases_eq, cases_lt, nat_tests, and_from, and_parts, mul-le-mul_right, limb_count, row_words, row_padded, is_padded, words_among, ArePadded, EndsPadded}
use Rattle.vers_saved.proofs.Orders.{get_or-words_among}

pub row_words-one : (n : ℕ) → row_words 1 n ≡ limb_count n
unfolding row_words
row_words-one n = omega arith

pub row_words-is : (rows bits : ℕ) → row_words rows bits ≡ rows * limb_count bits
unfolding row_words
row_words-is rows bits = refl

pub row_inside : (rows bits k : ℕ) → k < rows → k * limb_count bits + limb_count bits ≤ row_words rows bits
unfolding row_words
row_inside rows bits k h = omega (arith, mul-le-mul_right (limb_count bits) h)

pub none_padded : (bits : ℕ) (words : List ℕ) → is_padded 0 bits words ≡ true
unfolding is_padded
none_padded bits words = refl

pub more_padded : (bits k : ℕ) (words : List ℕ) → is_padded (k + 1) bits words ≡ (is_padded k bits words && row_padded bits k words)
unfolding is_padded
more_padded bits k words = let next : k + 1 ≡ suc k = omega arith in ap (λ n. is_padded n bits words) next

pub ruleset padding = (row_inside, none_padded, more_padded)

-- a row of a form, and of its content
row_parts : (bits k n : ℕ) (words : List ℕ) → k * limb_count bits + limb_count bits ≤ n → row_padded bits k words ≡ true
    → (bits % 64 ≡ 0) ⊎ (get_or (words_among n words) (k * limb_count bits + (limb_count bits - 1)) 0 < 2 ^ (bits % 64))
row_parts bits k n words inside h = elim (cases_eq (bits % 64) 0) [
  | inl whole ↦ inl whole
  | inr part ↦
      let position : k * limb_count bits + (limb_count bits - 1) + 5 ≡ k * limb_count bits + limb_count bits + 4 = omega arith in
      let small : get_or words (k * limb_count bits + limb_count bits + 4) 0 < 2 ^ (bits % 64) = grind (arith, nat_tests) in
      inr (rw (get_or-words_among n words (k * limb_count bits + (limb_count bits - 1)) (omega arith), position) small)
]

row_from : (bits k n : ℕ) (words : List ℕ) → k * limb_count bits + limb_count bits ≤ n
    → (bits % 64 ≡ 0) ⊎ (get_or (words_among n words) (k * limb_count bits + (limb_count bits - 1)) 0 < 2 ^ (bits % 64)) → row_padded bits k words ≡ true
row_from bits k n words inside (inl whole) = grind (arith, nat_tests)
row_from bits k n words inside (inr small) = elim (cases_eq (bits % 64) 0) [
  | inl whole ↦ grind (arith, nat_tests)
  | inr part ↦
      let position : k * limb_count bits + (limb_count bits - 1) + 5 ≡ k * limb_count bits + limb_count bits + 4 = omega arith in
      let here = rw (get_or-words_among n words (k * limb_count bits + (limb_count bits - 1)) (omega arith), position) at small in
      grind (arith, nat_tests)
]

pub rows_padded : (rows bits n : ℕ) (words : List ℕ) → row_words rows bits ≤ n → is_padded rows bits words ≡ true → ArePadded rows bits (words_among n words)
unfolding is_padded row_words
rows_padded zero bits n words inside h = λ k less. absurd (omega arith)
rows_padded (suc rows) bits n words inside h =
    let parts = and_parts (is_padded rows bits words) (row_padded bits rows words) h in
    λ k less. elim (cases_lt k rows) [
      | inl before ↦ rows_padded rows bits n words (omega arith) parts.0 k before
      | inr here ↦
          let same : rows ≡ k = omega arith in
          rw same at (row_parts bits rows n words (omega arith) parts.1)
    ]

pub rows_from : (rows bits n : ℕ) (words : List ℕ) → row_words rows bits ≤ n → ArePadded rows bits (words_among n words) → is_padded rows bits words ≡ true
unfolding is_padded row_words
rows_from zero bits n words inside padded = refl
rows_from (suc rows) bits n words inside padded =
    and_from _ _ (rows_from rows bits n words (omega arith) (λ k less. padded k (omega arith))) (row_from bits rows n words (omega arith) (padded rows (omega arith)))

-- one row
pub one_padded : (n : ℕ) (words : List ℕ) → EndsPadded n words → ArePadded 1 n words
one_padded n words padded = λ k less.
    let first : k * limb_count n + (limb_count n - 1) ≡ limb_count n - 1 = let none : k ≡ 0 = omega arith in rw none (omega arith) in rw first padded

pub padded_one : (n : ℕ) (words : List ℕ) → ArePadded 1 n words → EndsPadded n words
padded_one n words padded =
    let first : 0 * limb_count n + (limb_count n - 1) ≡ limb_count n - 1 = omega arith in rw first at (padded 0 (omega arith))

-- one row of too many bits
pub wide_row : (n : ℕ) → 18446744073709551616 ≤ n → 288230376151711743 < row_words 1 n
unfolding row_words
wide_row n wide = omega (arith, wide)

pub ruleset wide = (wide_row)
