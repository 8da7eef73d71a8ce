-- What positions and counts of the levels state about the list of symbols.
use Rattle.vers_wavelet.proofs.Names.{◌≡◌, ℕ, zero, suc, ◌+◌, ◌-◌, ◌%◌, ◌^◌, ◌<◌, ◌≤◌, Bool, true, cond, ltb, leb, eqb, List, ◌∷◌, ◌++◌, length, get_or, take, drop, refl, sym, ap, ◌∙◌, arith, add-one, filter, slice_range, slice_get, Option, Some, None, IsSome, IfSome, All, ◌↔◌, count_by, range_with_len, take-add, drop-cons, drop_more, eq-eqb, nat_tests, map-id, get_or_at, take-append-drop, length-append, length-take, length-drop, filter-append, length-filter, sum_by-append, sum_by-cons, sum_by_more, length-range_with_len, get_or-range_with_len, length-map-range_with_len, get_or-map-range_with_len, take-map-range_with_len, slice_get-get_or, slice_get_past, value, values, count_positions, count_below, count_equal, final_position, AreLevels, IsKthInRange, occurrences, IsKth}
use Rattle.vers_wavelet.proofs.Values.{final-up, equal_below, value-lt, counts_more, counts_same}
use Rattle.vers_wavelet.proofs.Elements.{never, not_lt}
use Rattle.vers_wavelet.proofs.Steps.{final_equal, final_more, final_parts}

pub length-values : (ls : List (List Bool)) (n : ℕ) → length (values ls n) ≡ n
unfolding values
length-values ls n = length-map-range_with_len (value ls) 0 n

pub get_or-values : (ls : List (List Bool)) (n p d : ℕ) → p < n → get_or (values ls n) p d ≡ value ls p
unfolding values
get_or-values ls n p d h = get_or-map-range_with_len (value ls) 0 n p p d h (omega arith)

-- symbols are below two to the number of levels
pub values_fit : (ls : List (List Bool)) (n : ℕ) → All (λ y. y < 2 ^ length ls) (values ls n)
values_fit ls n = λ k d h. omega (arith, get_or-values ls n k d (omega (arith, h, length-values ls n)), value-lt ls k)

-- ---- counts over a range of positions

-- a count over the first items of a list
pub taken_counts : {X : Type 0} (t : X → Bool) (xs : List X) (d : X) (i : ℕ) → i ≤ length xs → count_by t (take i xs) ≡ count_positions (λ p. t (get_or xs p d)) i
taken_counts t xs d zero h = refl
taken_counts t xs d (suc i) h =
    let more = sum_by_more (λ x. cond (t x) 1 0) xs i d (omega arith) in
    rw (← add-one i) (omega (arith, more, taken_counts t xs d i (omega arith), counts_more (λ p. t (get_or xs p d)) i))

pub first_counts : (t : ℕ → Bool) (ls : List (List Bool)) (n i : ℕ) → i ≤ n → count_by t (take i (values ls n)) ≡ count_positions (λ p. t (value ls p)) i
first_counts t ls n i h =
    taken_counts t (values ls n) 0 i (omega (arith, length-values ls n)) ∙ counts_same _ _ i (λ p k. ap t (get_or-values ls n p 0 (omega arith)))

-- a count over the elements of a range
over_elements : (t : ℕ → Bool) (ls : List (List Bool)) (n a b : ℕ) → a ≤ b → b ≤ n
    → count_by t (slice_range (values ls n) a b) + count_positions (λ p. t (value ls p)) a ≡ count_positions (λ p. t (value ls p)) b
over_elements t ls n a b order within =
    let e : a + (b - a) ≡ b = omega arith in
    let whole = ap (count_by t) (rw e at (take-add a (b - a) (values ls n))) in
    let parts = sum_by-append (λ x. cond (t x) 1 0) (take a (values ls n)) (slice_range (values ls n) a b) in
    omega (arith, whole, parts, first_counts t ls n a (omega arith), first_counts t ls n b within)

pub length-part : (ls : List (List Bool)) (n a b : ℕ) → a ≤ b → b ≤ n → length (slice_range (values ls n) a b) ≡ b - a
length-part ls n a b order within = omega (arith, length-take (b - a) (drop a (values ls n)), length-drop a (values ls n), length-values ls n)

-- ---- occurrences

counted_from : (items : List ℕ) (s a n : ℕ) → n ≤ length items - a
    → count_by (λ p. eqb (get_or items p 0) s) (range_with_len a n) ≡ count_by (λ y. eqb y s) (take n (drop a items))
counted_from items s a zero within = refl
counted_from items s a (suc n) within =
    let first = sum_by-cons (λ p. cond (eqb (get_or items p 0) s) 1 0) a (range_with_len (a + 1) n) in
    let element = sum_by-cons (λ y. cond (eqb y s) 1 0) (get_or items a 0) (take n (drop (a + 1) items)) in
    rw (drop_more items a 0 (omega arith)) (omega (arith, counted_from items s (a + 1) n (omega arith), first, element))

-- a symbol occurs in a range as often as the range's elements are it
pub occurrences_are_counted : (items : List ℕ) (a b s : ℕ) → b ≤ length items → length (occurrences items a b s) ≡ count_by (λ y. eqb y s) (slice_range items a b)
unfolding occurrences
occurrences_are_counted items a b s within =
    length-filter (λ p. eqb (get_or items p 0) s) (range_with_len a (b - a)) ∙ counted_from items s a (b - a) (omega arith)

-- a range that ends before it begins has no positions
pub no_positions : (items : List ℕ) (a b s : ℕ) → b ≤ a → length (occurrences items a b s) ≡ 0
unfolding occurrences
no_positions items a b s past = let none : b - a ≡ 0 = omega arith in rw none

occurrences_are : (ls : List (List Bool)) (n a b s : ℕ) → a ≤ b → b ≤ n → length (occurrences (values ls n) a b s) + count_equal ls s a ≡ count_equal ls s b
unfolding count_equal
occurrences_are ls n a b s order within = grind (arith, occurrences_are_counted, length-values, over_elements)

pub count_is : {ls : List (List Bool)} {n : ℕ} → AreLevels ls n → (s a b from to : ℕ) → a ≤ b → b ≤ n → from + final_position ls s b ≡ to + final_position ls s a
    → to - from ≡ length (occurrences (values ls n) a b (s % 2 ^ length ls))
count_is {ls} {n} levels s a b from to order within e =
    omega (arith, e, occurrences_are ls n a b (s % 2 ^ length ls) order within, final_parts levels s a b order within, final-up ls s a b order)

-- an element that passes is in the filter at the number of those before it
pub filter_at : {X : Type 0} (p : X → Bool) (ys : List X) (i : ℕ) (d : X) → i < length ys → p (get_or ys i d) ≡ true
    → (count_by p (take i ys) < length (filter p ys)) × (get_or (filter p ys) (count_by p (take i ys)) d ≡ get_or ys i d)
filter_at p ys i d h on =
    let next : filter p (drop i ys) ≡ get_or ys i d ∷ filter p (drop (suc i) ys) = rw (drop-cons ys i d h, on) refl in
    let made : filter p ys ≡ filter p (take i ys) ++ get_or ys i d ∷ filter p (drop (suc i) ys) =
    ap (filter p) (sym (take-append-drop i ys)) ∙ filter-append p (take i ys) (drop i ys) ∙ ap (λ l. filter p (take i ys) ++ l) next in
    let before = length-filter p (take i ys) in (
      omega (arith, ap length made, length-append (filter p (take i ys)) (get_or ys i d ∷ filter p (drop (suc i) ys)), before),
      rw made (get_or_at (filter p (take i ys)) (get_or ys i d) (filter p (drop (suc i) ys)) d _ before),
    )

-- the positions of a range that pass a test: number r of them is the one before which r of them are
nth_passing : (q : ℕ → Bool) (a m p d r : ℕ) → a ≤ p → p < a + m → q p ≡ true → count_by q (range_with_len a (p - a)) ≡ r → get_or (filter q (range_with_len a m)) r d ≡ p
nth_passing q a m p d r low high on e =
    let i : ℕ = p - a in
    let at : get_or (range_with_len a m) i d ≡ p = get_or-range_with_len a m i d (omega arith) ∙ omega arith in
    let taken = simp map-id at (take-map-range_with_len (λ (x : ℕ). x) a m i (omega arith)) in
    let found = filter_at q (range_with_len a m) i d (omega (arith, length-range_with_len a m)) (ap q at ∙ on) in
    ap (λ n. get_or (filter q (range_with_len a m)) n d) (sym (ap (count_by q) taken ∙ e)) ∙ found.1 ∙ at

-- the position whose final position is r past that of a is occurrence r from a on
pub found_is : {ls : List (List Bool)} {n : ℕ} → AreLevels ls n → (s a r from to p : ℕ) → a ≤ n → from ≡ final_position ls s a → to ≡ final_position ls s n → r < to - from
    → p < n → value ls p ≡ s % 2 ^ length ls → final_position ls s p ≡ from + r
    → Some p ≡ slice_get (occurrences (values ls n) a n (s % 2 ^ length ls)) r
unfolding occurrences
found_is {ls} {n} levels s a r from to p start e f few within holds leads =
    let v : ℕ = s % 2 ^ length ls in
    let q = λ (i : ℕ). eqb (get_or (values ls n) i 0) v in
    let order : a ≤ p = grind (arith, e, leads, final_more ls n levels.even s p within holds, final-up ls s (p + 1) a) in
    let many : length (occurrences (values ls n) a n v) ≡ to - from = sym (count_is levels s a n from to start (omega arith) (omega (arith, e, f))) in
    let before : count_by q (range_with_len a (p - a)) ≡ r =
    (let held = occurrences_are ls n a p v order (omega arith) in
    omega (arith, held, length-filter q (range_with_len a (p - a)), final_equal ls n levels.even s a start, final_equal ls n levels.even s p (omega arith))) in
    let at : get_or (filter q (range_with_len a (n - a))) r p ≡ p =
    nth_passing q a (n - a) p p r order (omega arith) (ap (λ x. eqb x v) (get_or-values ls n p 0 within) ∙ eq-eqb (value ls p) v holds) before in
    sym (slice_get-get_or (occurrences (values ls n) a n v) r p (omega arith) ∙ ap Some at)

pub found_none : {ls : List (List Bool)} {n : ℕ} → AreLevels ls n → (s a r from to : ℕ) → a ≤ n → from ≡ final_position ls s a → to ≡ final_position ls s n → to - from ≤ r
    → None ≡ slice_get (occurrences (values ls n) a n (s % 2 ^ length ls)) r
found_none {ls} {n} levels s a r from to start e f past = grind (arith, slice_get_past, count_is)

-- what the way back up gives of a position that may be one of another symbol
pub found_or_none : {ls : List (List Bool)} {n : ℕ} → AreLevels ls n → (s a r from : ℕ) (o : Option ℕ) → a ≤ n → from ≡ final_position ls s a → IfSome o (λ p. p < n)
    → IfSome o (λ p. value ls p ≡ s % 2 ^ length ls) → IfSome o (λ p. final_position ls s p ≡ from + r) → (IsSome o → from + r < final_position ls s n) × (from + r < final_position ls s n → IsSome o)
    → o ≡ slice_get (occurrences (values ls n) a n (s % 2 ^ length ls)) r
found_or_none {ls} {n} levels s a r from None start e within holds leads some =
    found_none levels s a r from (final_position ls s n) start e refl (omega (arith, not_lt {a = from + r} {b = final_position ls s n} (λ inside. never (some.1 inside))))
found_or_none {ls} {n} levels s a r from (Some p) start e within holds leads some = grind (arith, found_is)

-- ---- elements by size

leb_counts : (ls : List (List Bool)) (x i : ℕ) → count_positions (λ p. leb (value ls p) x) i ≡ count_below ls (x + 1) i
unfolding count_below
leb_counts ls x i = counts_same _ _ i (λ p h. grind (arith, nat_tests))

pub below_is : (ls : List (List Bool)) (n a b s less : ℕ) → a ≤ b → b ≤ n → less + count_below ls s a ≡ count_below ls s b → less ≡ count_by (λ y. ltb y s) (slice_range (values ls n) a b)
unfolding count_below
below_is ls n a b s less order within e = omega (arith, over_elements (λ v. ltb v s) ls n a b order within)

-- element i by size, by counts over the positions and over the elements
pub kth_is : (ls : List (List Bool)) (n a b i x : ℕ) → a ≤ b → b ≤ n → IsKthInRange ls a b i x ↔ IsKth (slice_range (values ls n) a b) i x
unfolding count_below
kth_is ls n a b i x order within =
    let below = over_elements (λ v. ltb v x) ls n a b order within in
    let not_above = over_elements (λ v. leb v x) ls n a b order within in (
      λ kth. record { less = omega (arith, below, kth.less); more = omega (arith, not_above, kth.more, leb_counts ls x a, leb_counts ls x b) },
      λ kth. record { less = omega (arith, below, kth.less); more = omega (arith, not_above, kth.more, leb_counts ls x a, leb_counts ls x b) },
    )

pub not_above_is : {ls : List (List Bool)} {n : ℕ} → AreLevels ls n → (s a b less from to : ℕ) → a ≤ b → b ≤ n → from + final_position ls s b ≡ to + final_position ls s a
    → less + count_below ls (s % 2 ^ length ls) a ≡ count_below ls (s % 2 ^ length ls) b
    → less + (to - from) ≡ count_by (λ y. leb y (s % 2 ^ length ls)) (slice_range (values ls n) a b)
not_above_is {ls} {n} levels s a b less from to order within e g =
    let v : ℕ = s % 2 ^ length ls in
    let counted = over_elements (λ x. leb x v) ls n a b order within in
    let held = final_parts levels s a b order within in
    omega (arith, counted, held, final-up ls s a b order, leb_counts ls v a, leb_counts ls v b, equal_below ls v a, equal_below ls v b)
