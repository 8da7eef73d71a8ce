-- The positions of the documents of a range follow one another.
use Rattle.postings.proofs.Names.{◌≡◌, ℕ, zero, suc, ◌+◌, ◌-◌, ◌<◌, ◌≤◌, All, Bool, true, false, List, ◌∷◌, length, Some, None, refl, ap, ◌∙◌, inl, inr, arith, ◌&&◌, nat_le, filter, slice_index, slice_get, range_with_len, IsNonDecreasing, cases_lt, le-leb, lt-leb, slice_get-get_or, below_le, below_before, below_after, Posted, positions_between, cheapest}
use Rattle.std.proofs.Math.Bool.{and-false}
use Rattle.vers_rmq.specs.Minima.{IsFirstLeast, first_least_of, least_position}
use Rattle.vers_rmq.proofs.PublicLaws.{first_least_of-range, as_first}
use Rattle.vers_sorted.specs.Sorted.{below}

-- of n numbers from a on, the first c pass and no other
filter_first : (p : ℕ → Bool) (a n c : ℕ) → c ≤ n → ((i : ℕ) → a ≤ i → i < a + c → p i ≡ true) → ((i : ℕ) → a + c ≤ i → i < a + n → p i ≡ false)
    → filter p (range_with_len a n) ≡ range_with_len a c
filter_first p a zero c few on off = let none : c ≡ 0 = omega (arith, few) in rw none refl
filter_first p a (suc n) zero few on off =
    rw (off a (omega arith) (omega arith)) (filter_first p (a + 1) n 0 (omega arith) (λ i f t. absurd (omega (arith, f, t))) (λ i f t. off i (omega (arith, f)) (omega (arith, t))))
filter_first p a (suc n) (suc c) few on off =
    rw (on a (omega arith) (omega arith)) (ap (λ (l : List ℕ). a ∷ l) (filter_first p (a + 1) n c (omega (arith, few)) (λ i f t. on i (omega (arith, f)) (omega (arith, t))) (λ i f t. off i (omega (arith, f)) (omega (arith, t)))))

-- the first k of n numbers from s on do not pass
filter_skips : (p : ℕ → Bool) (k s n : ℕ) → k ≤ n → ((i : ℕ) → s ≤ i → i < s + k → p i ≡ false) → filter p (range_with_len s n) ≡ filter p (range_with_len (s + k) (n - k))
filter_skips p zero s n few off = let start : s + 0 ≡ s = omega arith in let all : n - 0 ≡ n = omega arith in rw (start, all) refl
filter_skips p (suc k) s zero few off = absurd (omega (arith, few))
filter_skips p (suc k) s (suc n) few off =
    let moved : s + suc k ≡ (s + 1) + k = omega arith in
    let left : suc n - suc k ≡ n - k = omega arith in
    rw (off s (omega arith) (omega arith), moved, left) (filter_skips p k (s + 1) n (omega (arith, few)) (λ i f t. off i (omega (arith, f)) (omega (arith, t))))

-- of the first n numbers, c from a on pass and no other
filter_range : (p : ℕ → Bool) (n a c : ℕ) → a + c ≤ n → ((i : ℕ) → i < a → p i ≡ false) → ((i : ℕ) → a ≤ i → i < a + c → p i ≡ true) → ((i : ℕ) → a + c ≤ i → i < n → p i ≡ false)
    → filter p (range_with_len 0 n) ≡ range_with_len a c
filter_range p n a c few before on after =
    let start : 0 + a ≡ a = omega arith in
    filter_skips p a 0 n (omega (arith, few)) (λ i f t. before i (omega (arith, t))) ∙ ap (λ s. filter p (range_with_len s (n - a))) start ∙ filter_first p a (n - a) c (omega (arith, few)) on (λ i f t. after i f (omega (arith, t, few)))

-- all documents are below a number that none of them reaches
pub below_all : (documents : List ℕ) (v : ℕ) → IsNonDecreasing documents → All (λ d. d < v) documents → length documents ≡ below documents v
below_all documents v up less = elim (cases_lt (below documents v) (length documents)) [
  | inl fewer ↦ absurd (omega (arith, less (below documents v) 0 fewer, below_after documents v (below documents v) up (omega arith) fewer))
  | inr all ↦ omega (arith, all, below_le documents v)
]

-- the documents of a range begin after those below its start, and end with those not above its end
pub positions_between-range : (documents : List ℕ) (from to : ℕ) → IsNonDecreasing documents
    → positions_between documents from to ≡ range_with_len (below documents from) (below documents (to + 1) - below documents from)
unfolding positions_between
positions_between-range documents from to up =
    let a = below documents from in
    let b = below documents (to + 1) in
    let most = below_le documents (to + 1) in
    let least = below_le documents from in
    filter_range (λ i. nat_le from (slice_index documents i) && nat_le (slice_index documents i) to) (length documents) a (b - a) (omega (arith, most, least))
    (λ i t. rw (lt-leb from (slice_index documents i) (below_before documents from i up t)) refl)
    (λ i f t. rw (
      le-leb from (slice_index documents i) (below_after documents from i up f (omega (arith, t, most))),
      le-leb (slice_index documents i) to (omega (arith, below_before documents (to + 1) i up (omega (arith, f, t)))),
    ) refl)
    (λ i f t. rw (lt-leb (slice_index documents i) to (omega (arith, below_after documents (to + 1) i up (omega (arith, f)) t))) (and-false _))

-- none is cheapest if no document is in the range
pub cheapest_none : (posted : Posted) (from to : ℕ) → IsNonDecreasing posted.documents → below posted.documents (to + 1) ≤ below posted.documents from → None ≡ cheapest posted from to
unfolding cheapest first_least_of
cheapest_none posted from to up empty =
    let none : below posted.documents (to + 1) - below posted.documents from ≡ 0 = omega (arith, empty) in
    rw (positions_between-range posted.documents from to up, none) refl

-- the document at the first position of a least cost is cheapest
pub cheapest_some : (posted : Posted) (from to m : ℕ) → IsNonDecreasing posted.documents → below posted.documents from < below posted.documents (to + 1)
    → m ≡ least_position posted.costs (below posted.documents from) (below posted.documents (to + 1) - 1) → slice_get posted.documents m ≡ cheapest posted from to
unfolding cheapest
cheapest_some posted from to m up some same =
    let a = below posted.documents from in
    let b = below posted.documents (to + 1) in
    let first : IsFirstLeast posted.costs a (b - 1) m = as_first posted.costs a (b - 1) m (omega (arith, some)) same in
    let last : a + (b - a) - 1 ≡ b - 1 = omega (arith, some) in
    let found : first_least_of posted.costs (range_with_len a (b - a)) ≡ Some m = first_least_of-range posted.costs a (b - a) m (omega (arith, some)) (rw last first) in
    rw (positions_between-range posted.documents from to up, found)
    (slice_get-get_or posted.documents m 0 (omega (arith, first.to, below_le posted.documents (to + 1), some)))
