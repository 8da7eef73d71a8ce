-- Where symbols are divided, and the elements of both sides.
use Rattle.wavelet_tree.proofs.Names.{◌≡◌, ℕ, zero, suc, ◌+◌, ◌-◌, ◌*◌, ◌<◌, ◌≤◌, Bool, cond, ltb, leb, List, length, get_or, refl, sym, ap, ◌∙◌, arith, inl, inr, All, cases_Bool, cases_lt, lt-ltb, le-leb, le-ltb, lt-leb, ltb-true, ltb-false, leb-true, leb-false, All-filter, length-filter, sum_by-le-sum_by, lesser, lows, highs, nearer, half_from, split, CountsWithin}
use Rattle.wavelet_tree.proofs.Lists.{one, count_none, count_all, none_counted, all_counted, count_kept, count_sides}

-- ---- lesser elements

one_up : (a b x : ℕ) → a ≤ b → one (ltb x a) ≤ one (ltb x b)
one_up a b x up = elim (cases_lt x a) [ inl less ↦ rw (lt-ltb x a less, lt-ltb x b (omega (arith, less, up))) (omega arith) | inr more ↦ rw (le-ltb x a more) (omega arith) ]

pub lesser_up : (xs : List ℕ) (a b : ℕ) → a ≤ b → lesser xs a ≤ lesser xs b
lesser_up xs a b up = sum_by-le-sum_by (λ x. one (ltb x a)) (λ x. one (ltb x b)) xs (λ x. one_up a b x up)

pub lesser_all : (xs : List ℕ) (c : ℕ) → All (λ x. x < c) xs → lesser xs c ≡ length xs
lesser_all xs c below = count_all (λ x. ltb x c) xs (λ k d inside. lt-ltb _ c (below k d inside))

pub lesser_none : (xs : List ℕ) (c : ℕ) → All (λ x. c ≤ x) xs → lesser xs c ≡ 0
lesser_none xs c from = count_none (λ x. ltb x c) xs (λ k d inside. le-ltb _ c (from k d inside))

-- those below a symbol, on the left of a split
pub lesser_lows : (m c : ℕ) (xs : List ℕ) → c ≤ m → lesser (lows m xs) c ≡ lesser xs c
lesser_lows m c xs within = count_kept (λ x. ltb x m) (λ x. ltb x c) (λ x less. lt-ltb x m (omega (arith, ltb-true x c less, within))) xs

all_lows : (m : ℕ) (xs : List ℕ) → All (λ x. x < m) (lows m xs)
all_lows m xs = λ k d inside. ltb-true _ m (all_counted (λ x. ltb x m) (lows m xs) (count_kept (λ x. ltb x m) (λ x. ltb x m) (λ x less. less) xs ∙ sym (length-filter (λ x. ltb x m) xs)) k d inside)

all_highs : (m : ℕ) (xs : List ℕ) → All (λ x. m ≤ x) (highs m xs)
all_highs m xs = λ k d inside. leb-true m _ (all_counted (λ x. leb m x) (highs m xs) (count_kept (λ x. leb m x) (λ x. leb m x) (λ x more. more) xs ∙ sym (length-filter (λ x. leb m x) xs)) k d inside)

-- and on the right
pub lesser_highs : (m c : ℕ) (xs : List ℕ) → m ≤ c → lesser xs c ≡ lesser xs m + lesser (highs m xs) c
lesser_highs m c xs from =
    let left : lesser (lows m xs) c ≡ length (lows m xs) = lesser_all (lows m xs) c (λ k d inside. omega (arith, all_lows m xs k d inside, from)) in
    omega (arith, count_sides m (λ x. ltb x c) xs, left, length-filter (λ x. ltb x m) xs)

-- ---- the split

-- the first symbol with half of the elements below it
pub record IsHalf (starts : List ℕ) (elements low n s : ℕ) : Type 0 where
  pub from : low ≤ s
  pub within : s ≤ low + n
  pub before : (c : ℕ) → low ≤ c → c < s → 2 * get_or starts c 0 < elements
  pub at : s < low + n → elements ≤ 2 * get_or starts s 0

-- of no symbols it is the next one
half_zero : (starts : List ℕ) (elements low : ℕ) → half_from starts elements low zero ≡ low
unfolding half_from
half_zero starts elements low = omega arith

-- of more symbols it is the first one, or that of the others
half_suc : (starts : List ℕ) (elements low n : ℕ) → half_from starts elements low (suc n) ≡ cond (leb elements (2 * get_or starts low 0)) low (half_from starts elements (suc low) n)
unfolding half_from
half_suc starts elements low n =
    let P : ℕ → Bool = λ s. leb elements (2 * get_or starts s 0) in
    let next : low + 1 ≡ suc low = omega arith in
    let end : low + suc n ≡ suc low + n = omega arith in
    elim (cases_Bool (P low)) [
      | inl enough ↦ rw enough refl
      | inr few ↦ rw (few, next, end) refl
    ]

pub half_is : (starts : List ℕ) (elements low n : ℕ) → IsHalf starts elements low n (half_from starts elements low n)
half_is starts elements low zero =
    rw (half_zero starts elements low) (record { from = omega arith; within = omega arith; before = λ c from less. absurd (omega (arith, from, less)); at = λ less. absurd (omega (arith, less)) })
half_is starts elements low (suc n) =
    elim (cases_Bool (leb elements (2 * get_or starts low 0))) [
      | inl enough ↦ rw (half_suc starts elements low n, enough) (record { from = omega arith; within = omega arith; before = λ c from less. absurd (omega (arith, from, less)); at = λ less. leb-true _ _ enough })
      | inr few ↦
          let deeper = half_is starts elements (suc low) n in
          rw (half_suc starts elements low n, few) (record {
            from = omega (arith, deeper.from);
            within = omega (arith, deeper.within);
            before = λ c from less. elim (cases_lt low c) [ inl later ↦ deeper.before c (omega (arith, later)) less | inr here ↦ let same : c ≡ low = omega (arith, from, here) in rw same (leb-false _ _ few) ];
            at = λ less. deeper.at (omega (arith, less));
          })
    ]

pub half_here : (starts : List ℕ) (elements low n : ℕ) → elements ≤ 2 * get_or starts low 0 → half_from starts elements low n ≡ low
half_here starts elements low zero enough = half_zero starts elements low
half_here starts elements low (suc n) enough = half_suc starts elements low n ∙ rw (le-leb _ _ enough) refl

pub half_next : (starts : List ℕ) (elements low next end : ℕ) → next ≡ low + 1 → low < end → 2 * get_or starts low 0 < elements → half_from starts elements next (end - next) ≡ half_from starts elements low (end - low)
half_next starts elements low next end is inside few =
    let n : ℕ = end - next in
    let one : next ≡ suc low = omega (arith, is) in
    let more : end - low ≡ suc n = omega (arith, is, inside) in
    rw (more, half_suc starts elements low n, lt-leb _ _ few, one) refl

pub half_none : (starts : List ℕ) (elements low n : ℕ) → n ≡ 0 → half_from starts elements low n ≡ low
half_none starts elements low n none = rw none (half_zero starts elements low)

-- a split is a symbol past the first; if nothing is at or past it, nothing is below the symbol before it
pub record Divides (starts : List ℕ) (low end m : ℕ) : Type 0 where
  pub from : low < m
  pub within : m ≤ end
  pub alone : get_or starts m 0 ≡ get_or starts end 0 → get_or starts (m - 1) 0 ≡ get_or starts low 0

divides_at : (starts : List ℕ) (low end u : ℕ) → low < end → ((a b : ℕ) → low ≤ a → a ≤ b → b ≤ end → get_or starts a 0 ≤ get_or starts b 0)
    → IsHalf starts (get_or starts low 0 + get_or starts end 0) (low + 1) (end - (low + 1)) u → Divides starts low end (nearer starts (get_or starts low 0 + get_or starts end 0) u)
divides_at starts low end u some up half =
    let first = up low (u - 1) (omega arith) (omega (arith, half.from)) (omega (arith, half.within, some)) in
    let next = up (u - 1) u (omega (arith, half.from)) (omega arith) (omega (arith, half.within, some)) in
    let last = up u end (omega (arith, half.from)) (omega (arith, half.within, some)) (omega arith) in
    elim (cases_Bool (ltb (get_or starts low 0 + get_or starts end 0) (get_or starts (u - 1) 0 + get_or starts u 0))) [
      | inl closer ↦
          let less = ltb-true _ _ closer in
          let past : low + 1 < u = elim (cases_lt (low + 1) u) [
            | inl past ↦ past
            | inr only ↦ let same : u - 1 ≡ low = omega (arith, only, half.from) in absurd (omega (arith, less, last, ap (λ n. get_or starts n 0) same))
          ] in
          rw closer (record {
            from = omega (arith, past);
            within = omega (arith, half.within, some);
            alone = λ same. absurd (omega (arith, same, less, last, next, first, half.before (u - 1) (omega (arith, past)) (omega (arith, past))));
          })
      | inr other ↦
          let more = ltb-false _ _ other in
          rw other (record {
            from = omega (arith, half.from);
            within = omega (arith, half.within, some);
            alone = λ same. omega (arith, same, more, first);
          })
    ]

starts_up : (starts : List ℕ) (low end : ℕ) (xs : List ℕ) → CountsWithin starts low end xs → (a b : ℕ) → low ≤ a → a ≤ b → b ≤ end → get_or starts a 0 ≤ get_or starts b 0
starts_up starts low end xs counts a b from up within =
    omega (arith, counts.counts a from (omega (arith, up, within)), counts.counts b (omega (arith, from, up)) within, lesser_up xs a b up)

pub split_divides : (starts : List ℕ) (low end : ℕ) (xs : List ℕ) → CountsWithin starts low end xs → Divides starts low end (split starts low end)
unfolding split
split_divides starts low end xs counts =
    divides_at starts low end _ counts.order (starts_up starts low end xs counts) (half_is starts _ (low + 1) (end - (low + 1)))

-- ---- a leaf, and both sides of a fork

pub only_symbol : (starts : List ℕ) (low end m : ℕ) (xs : List ℕ) → CountsWithin starts low end xs → Divides starts low end m → get_or starts m 0 ≡ get_or starts end 0
    → All (λ x. x ≡ m - 1) xs × (get_or starts (m - 1) 0 + length xs ≡ get_or starts end 0)
only_symbol starts low end m xs counts divides same =
    let all : lesser xs end ≡ length xs = lesser_all xs end (λ k d inside. (counts.elements k d inside).1) in
    let alone = divides.alone same in
    let first = counts.counts (m - 1) (omega (arith, divides.from)) (omega (arith, divides.within)) in
    let next = counts.counts m (omega (arith, divides.from)) divides.within in
    let last = counts.counts end (omega (arith, counts.order)) (omega arith) in
    let below = all_counted (λ x. ltb x m) xs (omega (arith, next, last, same, all)) in
    let above = none_counted (λ x. ltb x (m - 1)) xs (omega (arith, first, alone)) in
    (λ k d inside. omega (arith, ltb-true _ m (below k d inside), ltb-false _ (m - 1) (above k d inside), divides.from), omega (arith, alone, last, all))

pub low_counts : (starts : List ℕ) (low end m : ℕ) (xs : List ℕ) → CountsWithin starts low end xs → Divides starts low end m → CountsWithin starts low m (lows m xs)
low_counts starts low end m xs counts divides = record {
  order = divides.from;
  inside = omega (arith, counts.inside, divides.within);
  short = counts.short;
  elements = λ k d inside. ((All-filter (λ x. ltb x m) (λ x. (low ≤ x) × (x < end)) xs counts.elements k d inside).0, all_lows m xs k d inside);
  counts = λ c from within. counts.counts c from (omega (arith, within, divides.within)) ∙ ap (λ n. get_or starts low 0 + n) (sym (lesser_lows m c xs within));
}

pub high_counts : (starts : List ℕ) (low end m : ℕ) (xs : List ℕ) → CountsWithin starts low end xs → Divides starts low end m → m < end → CountsWithin starts m end (highs m xs)
high_counts starts low end m xs counts divides more = record {
  order = more;
  inside = counts.inside;
  short = counts.short;
  elements = λ k d inside. (all_highs m xs k d inside, (All-filter (λ x. leb m x) (λ x. (low ≤ x) × (x < end)) xs counts.elements k d inside).1);
  counts = λ c from within.
      omega (arith, counts.counts c (omega (arith, from, divides.from)) within, counts.counts m (omega (arith, divides.from)) divides.within, lesser_highs m c xs from);
}

-- ---- what is computed

pub split_before : (starts : List ℕ) (low end s : ℕ) → s ≡ half_from starts (get_or starts low 0 + get_or starts end 0) (low + 1) (end - (low + 1))
    → get_or starts low 0 + get_or starts end 0 < get_or starts (s - 1) 0 + get_or starts s 0 → s - 1 ≡ split starts low end
unfolding split
split_before starts low end s is less = rw (← is, lt-ltb _ _ less) refl

pub split_there : (starts : List ℕ) (low end s : ℕ) → s ≡ half_from starts (get_or starts low 0 + get_or starts end 0) (low + 1) (end - (low + 1))
    → get_or starts (s - 1) 0 + get_or starts s 0 ≤ get_or starts low 0 + get_or starts end 0 → s ≡ split starts low end
unfolding split
split_there starts low end s is more = rw (← is, le-ltb _ _ more) refl
