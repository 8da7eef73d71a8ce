-- The first position of a least item, found among the positions of its range.
use Rattle.vers_rmq.proofs.Names.{◌≡◌, ℕ, zero, suc, ◌+◌, ◌-◌, ◌<◌, ◌≤◌, Bool, true, false, List, get_or, leb, Some, refl, inl, inr, arith, cases_lt, le-leb, lt-leb, IsFirstLeast, lesser, find, list_all, range_with_len, is_least, first_least_of, least_position}
use Rattle.std.proofs.Math.Bool.{and-false}
use Rattle.vers_rmq.specs.Laws.{LeastPositionIsFirst}
use Rattle.vers_rmq.proofs.Minima.{least_at, least_join, least_ends}

-- the first of n numbers from a on that does
find_first : (test : ℕ → Bool) (a n m : ℕ) → a ≤ m → m < a + n → test m ≡ true → ((k : ℕ) → a ≤ k → k < m → test k ≡ false) → find test (range_with_len a n) ≡ Some m
find_first test a zero m from to here before = absurd (omega (arith, from, to))
find_first test a (suc n) m from to here before = elim (cases_lt a m) [
  | inl less ↦ rw (before a (omega arith) less) (find_first test (a + 1) n m (omega arith) (omega arith) here (λ k h l. before k (omega arith) l))
  | inr more ↦ let same : m ≡ a = omega arith in rw (← same, here) refl
]

-- n numbers from a on that all do
all_of_range : (test : ℕ → Bool) (a n : ℕ) → ((k : ℕ) → a ≤ k → k < a + n → test k ≡ true) → list_all test (range_with_len a n) ≡ true
all_of_range test a zero each = refl
all_of_range test a (suc n) each = rw (each a (omega arith) (omega arith), all_of_range test (a + 1) n (λ k h l. each k (omega arith) (omega arith))) refl

-- one of them that doesn't
one_of_range : (test : ℕ → Bool) (a n m : ℕ) → a ≤ m → m < a + n → test m ≡ false → list_all test (range_with_len a n) ≡ false
one_of_range test a zero m from to here = absurd (omega (arith, from, to))
one_of_range test a (suc n) m from to here = elim (cases_lt a m) [
  | inl less ↦ rw (one_of_range test (a + 1) n m (omega arith) (omega arith) here) (and-false _)
  | inr more ↦ let same : m ≡ a = omega arith in rw (← same, here) refl
]

-- of the n positions from i on, the first with a least item is the first least position
pub first_least_of-range : (items : List ℕ) (i n m : ℕ) → 0 < n → IsFirstLeast items i (i + n - 1) m → first_least_of items (range_with_len i n) ≡ Some m
unfolding first_least_of is_least
first_least_of-range items i n m some first =
    find_first (is_least items (range_with_len i n)) i n m first.from (omega (arith, first.to, some))
    (all_of_range (λ p. leb (get_or items m 0) (get_or items p 0)) i n (λ p f t. le-leb _ _ (first.least p f (omega arith))))
    (λ k f t. one_of_range (λ p. leb (get_or items k 0) (get_or items p 0)) i n m first.from (omega (arith, first.to, some)) (lt-leb _ _ (first.leftmost k f t)))

-- a first least position is the least position
pub is_least_position : (items : List ℕ) (i j m : ℕ) → IsFirstLeast items i j m → m ≡ least_position items i j
unfolding least_position
is_least_position items i j m first =
    let last : i + (j + 1 - i) - 1 ≡ j = omega (arith, first.from, first.to) in
    rw (first_least_of-range items i (j + 1 - i) m (omega (arith, first.from, first.to)) (rw last first)) refl

-- n + 1 positions from i on have a first least one
some_position : (items : List ℕ) (i n : ℕ) → (m : ℕ) × IsFirstLeast items i (i + n) m
some_position items i zero = let end : i ≡ i + 0 = omega arith in (i, least_ends items i i (i + 0) i end (least_at items i))
some_position items i (suc n) =
    let before = some_position items i n in
    (lesser items before.0 (i + suc n), least_join items i (i + n) (i + suc n) (i + suc n) before.0 (i + suc n) before.1 (least_at items (i + suc n)) (omega arith) (omega arith) (omega arith))

-- the least position is the first least one
pub least_position-first : LeastPositionIsFirst
least_position-first items i j order =
    let some = some_position items i (j - i) in
    let first : IsFirstLeast items i j some.0 = least_ends items i (i + (j - i)) j some.0 (omega (arith, order)) some.1 in
    rw (← is_least_position items i j some.0 first) first

-- what is the least position is the first least one
pub as_first : (items : List ℕ) (i j m : ℕ) → i ≤ j → m ≡ least_position items i j → IsFirstLeast items i j m
as_first items i j m order same = rw same (least_position-first items i j order)

pub ruleset first_positions = (least_position-first)
