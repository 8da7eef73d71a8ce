-- The elements of a list in ascending order, and the element that is number i by size.
use Rattle.vers_wavelet.proofs.Names.{◌≡◌, ℕ, suc, ◌+◌, ◌<◌, ◌≤◌, Bool, ltb, leb, List, [], ◌∷◌, length, get_or, Some, None, refl, sym, ap, ◌∙◌, subst, arith, inl, inr, ◌↔◌, count_by, insert, prefix_len, IsNonDecreasing, IsPermutation, cases_lt, lt-ltb, le-ltb, ltb-true, ltb-false, le-leb, lt-leb, leb-true, length_permutation, sum_by-IsPermutation, IsPermutation-refl, IsPermutation-cons, IsPermutation-insert, IsPermutation-trans, IsNonDecreasingBy-insert, count_by-le-length, prefix_len-le-length, prefix_len_passes, prefix_len_stops, slice_get-get_or, slice_get_past, slice_get_within, get_or_from_slice_get, same_lists, any_default, passes_first, placed, by_size, kth_by_size, IsKth}
use Rattle.vers_wavelet.proofs.Elements.{one}

-- ---- ascending order

-- a number is placed right after those below it
placed_is : (x : ℕ) (ys : List ℕ) → placed x ys ≡ insert ys (prefix_len (λ y. ltb y x) ys) x
placed_is x [] = refl
placed_is x (y ∷ ys) =
    elim (cases_lt y x) [
      | inl low ↦
          let next : 1 + prefix_len (λ z. ltb z x) ys ≡ suc (prefix_len (λ z. ltb z x) ys) = omega arith in
          rw (lt-leb x y low, lt-ltb y x low, next) (ap (λ (l : List ℕ). y ∷ l) (placed_is x ys))
      | inr fine ↦ rw (le-leb x y fine, le-ltb y x fine) refl
    ]

by_size_moved : (xs : List ℕ) → IsPermutation xs (by_size xs)
by_size_moved [] = IsPermutation-refl []
by_size_moved (x ∷ xs) =
    IsPermutation-trans _ _ _ (IsPermutation-cons x xs (by_size xs) (by_size_moved xs))
    (subst (λ (l : List ℕ). IsPermutation (x ∷ by_size xs) l) (sym (placed_is x (by_size xs))) (IsPermutation-insert (by_size xs) (prefix_len (λ y. ltb y x) (by_size xs)) x))

-- in ascending order elements ascend
pub by_size_ascends : (xs : List ℕ) → IsNonDecreasing (by_size xs)
by_size_ascends [] = λ i j d up inside. absurd (omega arith)
by_size_ascends (x ∷ xs) =
    let ys : List ℕ = by_size xs in
    let up = by_size_ascends xs in
    let test = λ (y : ℕ). ltb y x in
    subst IsNonDecreasing (sym (placed_is x ys)) (IsNonDecreasingBy-insert (λ y. y) ys (prefix_len test ys) x up (prefix_len-le-length test ys)
    (λ k d less. omega (arith, ltb-true _ _ (prefix_len_passes test ys k d less)))
    (λ k d more inside. omega (arith, ltb-false _ _ (prefix_len_stops test ys d (omega arith)), up (prefix_len test ys) k d more inside)))

pub count_by_size : (p : ℕ → Bool) (xs : List ℕ) → count_by p (by_size xs) ≡ count_by p xs
count_by_size p xs = sum_by-IsPermutation (λ y. one (p y)) xs (by_size xs) (by_size_moved xs)

pub length-by_size : (xs : List ℕ) → length (by_size xs) ≡ length xs
length-by_size xs = length_permutation xs (by_size xs) (by_size_moved xs)

-- ---- what the first elements pass

-- which elements by size are below a number, and which are not above it
pub below_first : (xs : List ℕ) (s i : ℕ) → i < length xs → ltb (get_or (by_size xs) i 0) s ≡ ltb i (count_by (λ y. ltb y s) xs)
below_first xs s i inside =
    passes_first (λ y. ltb y s) (by_size xs) (λ j k d before within low. lt-ltb _ _ (omega (arith, by_size_ascends xs j k d (omega arith) within, ltb-true _ _ low))) i (omega (arith, length-by_size xs))
    ∙ ap (ltb i) (count_by_size (λ y. ltb y s) xs)

pub not_above_first : (xs : List ℕ) (s i : ℕ) → i < length xs → leb (get_or (by_size xs) i 0) s ≡ ltb i (count_by (λ y. leb y s) xs)
not_above_first xs s i inside =
    passes_first (λ y. leb y s) (by_size xs) (λ j k d before within low. le-leb _ _ (omega (arith, by_size_ascends xs j k d (omega arith) within, leb-true _ _ low))) i (omega (arith, length-by_size xs))
    ∙ ap (ltb i) (count_by_size (λ y. leb y s) xs)

-- element i by size is at position i in ascending order
pub kth_at : (xs : List ℕ) (i x : ℕ) → i < length xs → IsKth xs i x → get_or (by_size xs) i 0 ≡ x
kth_at xs i x h kth =
    omega (arith, ltb-false _ _ (below_first xs x i h ∙ le-ltb _ _ kth.less), leb-true _ _ (not_above_first xs x i h ∙ lt-ltb _ _ kth.more))

pub at_kth : (xs : List ℕ) (i : ℕ) → i < length xs → IsKth xs i (get_or (by_size xs) i 0)
at_kth xs i h =
    let x : ℕ = get_or (by_size xs) i 0 in
    record {
      less = ltb-false _ _ (sym (below_first xs x i h) ∙ le-ltb x x (omega arith));
      more = ltb-true _ _ (sym (not_above_first xs x i h) ∙ le-leb x x (omega arith));
    }

-- ---- laws

kth_within : (xs : List ℕ) (i x : ℕ) → IsKth xs i x → i < length xs
kth_within xs i x kth = omega (arith, kth.more, count_by-le-length (λ z. leb z x) xs)

pub kth_position : (xs : List ℕ) (i x : ℕ) → IsKth xs i x → x ≡ get_or (by_size xs) i 0
kth_position xs i x kth = sym (kth_at xs i x (kth_within xs i x kth) kth)

-- a list has one element of each number by size
pub one_kth : (xs : List ℕ) (i x y : ℕ) → IsKth xs i x → IsKth xs i y → x ≡ y
one_kth xs i x y k m = kth_position xs i x k ∙ sym (kth_position xs i y m)

-- a list of the elements by size is the list in ascending order
pub quantiles_ascend : (numbers quantiles : List ℕ) → length quantiles ≡ length numbers → ((i : ℕ) → i < length numbers → IsKth numbers i (get_or quantiles i 0)) → quantiles ≡ by_size numbers
quantiles_ascend numbers quantiles long each =
    same_lists quantiles (by_size numbers) (omega (arith, long, length-by_size numbers)) (λ i d h.
    let low : i < length numbers = omega (arith, h, long) in
    any_default quantiles i d 0 h ∙ sym (kth_at numbers i (get_or quantiles i 0) low (each i low))
    ∙ any_default (by_size numbers) i 0 d (omega (arith, low, length-by_size numbers)))

pub kth_some : (xs : List ℕ) (i x : ℕ) → i < length xs → x ≡ get_or (by_size xs) i 0 → kth_by_size xs i ≡ Some x
unfolding kth_by_size
kth_some xs i x h is = slice_get-get_or (by_size xs) i 0 (omega (arith, length-by_size xs)) ∙ ap Some (sym is)

pub kth_item : (xs : List ℕ) (i : ℕ) → i < length xs → kth_by_size xs i ≡ Some (get_or (by_size xs) i 0)
kth_item xs i h = kth_some xs i (get_or (by_size xs) i 0) h refl

pub kth_none : (xs : List ℕ) (i : ℕ) → length xs ≤ i → kth_by_size xs i ≡ None
unfolding kth_by_size
kth_none xs i h = slice_get_past (by_size xs) i (omega (arith, length-by_size xs))

-- a number is element i by size exactly if the definition gives it
pub kth_is : (xs : List ℕ) (i x : ℕ) → (kth_by_size xs i ≡ Some x) ↔ IsKth xs i x
unfolding kth_by_size
kth_is xs i x = (
  λ is.
      let inside : i < length xs = omega (arith, slice_get_within (by_size xs) i x is, length-by_size xs) in
      subst (IsKth xs i) (get_or_from_slice_get (by_size xs) i x 0 is) (at_kth xs i inside),
  λ kth. kth_some xs i x (kth_within xs i x kth) (kth_position xs i x kth),
)
