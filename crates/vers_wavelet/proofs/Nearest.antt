-- Neighbours of a number in a list: of its elements in ascending order the last up to the number, and the first from it on.
use Rattle.vers_wavelet.proofs.Names.{◌≡◌, ℕ, ◌+◌, ◌-◌, ◌<◌, ◌≤◌, subst, Bool, true, false, not, ltb, leb, List, [], length, get_or, Option, Some, None, refl, sym, ap, ◌∙◌, arith, ◌↔◌, IsSome, Any, count_by, le-leb, lt-leb, lt-ltb, le-ltb, ltb-true, ltb-false, count_by-le-length, find_is, none_passing, last_passing_is, bool_byte, by_size, kth_by_size, greatest_up_to, least_from, nearest, IsPredecessor, IsSuccessor}
use Rattle.vers_wavelet.proofs.Elements.{not_lt, kth_same, predecessor_is, successor_is, any_not_above, some_not_above, any_not_below, some_not_below, never}
use Rattle.vers_wavelet.proofs.BySize.{length-by_size, below_first, not_above_first, kth_some, kth_none, kth_is}
use Rattle.vers_wavelet.proofs.Ranges.{elements_past, elements_reversed, narrow_word, wide_word}

-- ---- in ascending order, what is before and after as many elements as are below s, or not above it

-- the first element that is not below s comes right after those below it
pub least_from_is : (xs : List ℕ) (s n : ℕ) → n ≡ count_by (λ y. ltb y s) xs → least_from xs s ≡ kth_by_size xs n
unfolding least_from kth_by_size
least_from_is xs s n e =
    let ys : List ℕ = by_size xs in
    let long = length-by_size xs in
    let few = count_by-le-length (λ y. ltb y s) xs in
    find_is (λ y. leb s y) ys n (omega arith)
    (λ i h. lt-leb s (get_or ys i 0) (ltb-true _ _ (below_first xs s i (omega arith) ∙ lt-ltb _ _ (omega arith))))
    (λ h. le-leb s (get_or ys n 0) (ltb-false _ _ (below_first xs s n (omega arith) ∙ le-ltb _ _ (omega arith))))

-- the last element that is not above s is the last of those
pub greatest_up_to_is : (xs : List ℕ) (s n : ℕ) → n ≡ count_by (λ y. leb y s) xs → 0 < n → greatest_up_to xs s ≡ kth_by_size xs (n - 1)
unfolding greatest_up_to kth_by_size
greatest_up_to_is xs s n e some =
    let long = length-by_size xs in
    let few = count_by-le-length (λ y. leb y s) xs in
    last_passing_is None (λ y. leb y s) (by_size xs) (n - 1) (omega arith)
    (λ i h. not_above_first xs s i (omega arith) ∙ lt-ltb _ _ (omega arith)) (λ i h short. not_above_first xs s i (omega arith) ∙ le-ltb _ _ (omega arith))

pub greatest_up_to_none : (xs : List ℕ) (s : ℕ) → count_by (λ y. leb y s) xs ≡ 0 → greatest_up_to xs s ≡ None
unfolding greatest_up_to
greatest_up_to_none xs s e =
    let long = length-by_size xs in
    none_passing None (λ y. leb y s) (by_size xs) (λ i h. not_above_first xs s i (omega arith) ∙ le-ltb _ _ (omega arith))

-- an empty list has no neighbours
pub none_up_to : (s : ℕ) → greatest_up_to [] s ≡ None
none_up_to s = greatest_up_to_none [] s refl

pub none_from : (s : ℕ) → least_from [] s ≡ None
none_from s = least_from_is [] s 0 refl ∙ kth_none [] 0 (omega arith)

-- ---- the neighbour on one side, by how many elements are below s and how many are it

pub nearest_same : (up : Bool) (xs : List ℕ) (below equal s x : ℕ) → below ≡ count_by (λ y. ltb y s) xs → below + equal ≡ count_by (λ y. leb y s) xs → 0 < equal → x ≡ s → nearest up xs s ≡ Some x
nearest_same true xs below equal s x low high some is =
    least_from_is xs s below low ∙ (kth_is xs below s).1 (kth_same xs below equal s low high some below (omega arith) (omega arith)) ∙ ap Some (sym is)
nearest_same false xs below equal s x low high some is =
    greatest_up_to_is xs s (below + equal) high (omega arith)
    ∙ (kth_is xs (below + equal - 1) s).1 (kth_same xs below equal s low high some (below + equal - 1) (omega arith) (omega arith)) ∙ ap Some (sym is)

pub nearest_is : (up : Bool) (xs : List ℕ) (below s x i : ℕ) → below ≡ count_by (λ y. ltb y s) xs → below ≡ count_by (λ y. leb y s) xs → (up ≡ true → below < length xs) → (up ≡ false → 0 < below)
    → i ≡ below - bool_byte (not up) → x ≡ get_or (by_size xs) i 0 → nearest up xs s ≡ Some x
nearest_is true xs below s x i low high more some at is = grind (arith, least_from_is, kth_some)
nearest_is false xs below s x i low high more some at is = grind (arith, greatest_up_to_is, kth_some, count_by-le-length)

pub nearest_none : (up : Bool) (xs : List ℕ) (below s : ℕ) → below ≡ count_by (λ y. ltb y s) xs → below ≡ count_by (λ y. leb y s) xs → (up ≡ true → below ≡ length xs) → (up ≡ false → below ≡ 0) → nearest up xs s ≡ None
nearest_none true xs below s low high all none = least_from_is xs s below low ∙ kth_none xs below (omega (arith, all refl))
nearest_none false xs below s low high all none = greatest_up_to_none xs s (omega (arith, none refl, high))

-- ---- laws

one_predecessor : (xs : List ℕ) (s x y : ℕ) → IsPredecessor xs s x → IsPredecessor xs s y → x ≡ y
one_predecessor xs s x y p q =
    omega (arith, p.element.2, q.element.2, p.within, q.within, p.greatest q.element.0 y q.element.1, q.greatest p.element.0 x p.element.1)

one_successor : (xs : List ℕ) (s x y : ℕ) → IsSuccessor xs s x → IsSuccessor xs s y → x ≡ y
one_successor xs s x y p q =
    omega (arith, p.element.2, q.element.2, p.within, q.within, p.least q.element.0 y q.element.1, q.least p.element.0 x p.element.1)

-- a search finds exactly what is in a relation, if it finds something whenever something is in it, and only one number is
just_where : (o : Option ℕ) (R : ℕ → Type 0) → ((x y : ℕ) → R x → R y → x ≡ y) → (IsSome o → (x : ℕ) × (o ≡ Some x) × R x)
    → ((x : ℕ) → R x → IsSome o)
    → (x : ℕ) → (o ≡ Some x) ↔ R x
just_where o R one some held x = (
  λ is.
      let found = some (subst IsSome (sym is) refl) in
      let same : found.0 ≡ x = cc (found.1, is) in
      subst R same found.2,
  λ r. let found = some (held x r) in found.1 ∙ ap Some (one found.0 x found.2 r),
)

-- where some element is not above s, the definition gives one, and it is the predecessor
predecessor_found : (xs : List ℕ) (s : ℕ) → Any (λ y. y ≤ s) xs → (x : ℕ) × (greatest_up_to xs s ≡ Some x) × IsPredecessor xs s x
predecessor_found xs s any =
    let n : ℕ = count_by (λ y. leb y s) xs in
    let x : ℕ = get_or (by_size xs) (n - 1) 0 in
    let some : 0 < n = some_not_above xs n s refl any in
    let at : kth_by_size xs (n - 1) ≡ Some x = kth_some xs (n - 1) x (omega (arith, some, count_by-le-length (λ y. leb y s) xs)) refl in
    (x, greatest_up_to_is xs s n refl some ∙ at, predecessor_is xs n s x refl some ((kth_is xs (n - 1) x).0 at))

pub greatest_up_to_some : (xs : List ℕ) (s : ℕ) → IsSome (greatest_up_to xs s) ↔ Any (λ y. y ≤ s) xs
greatest_up_to_some xs s = (
  λ is. any_not_above xs _ s refl (not_lt (λ none. never (subst IsSome (greatest_up_to_none xs s (omega (arith, none))) is))),
  λ any. subst IsSome (sym (predecessor_found xs s any).1) refl,
)

pub greatest_up_to_predecessor : (xs : List ℕ) (s x : ℕ) → (greatest_up_to xs s ≡ Some x) ↔ IsPredecessor xs s x
greatest_up_to_predecessor xs s =
    just_where (greatest_up_to xs s) (IsPredecessor xs s) (one_predecessor xs s) (λ is. predecessor_found xs s ((greatest_up_to_some xs s).0 is))
    (λ x p. (greatest_up_to_some xs s).1 (p.element.0, x, p.element.1, p.element.2, p.within))

successor_found : (xs : List ℕ) (s : ℕ) → Any (λ y. s ≤ y) xs → (x : ℕ) × (least_from xs s ≡ Some x) × IsSuccessor xs s x
successor_found xs s any =
    let n : ℕ = count_by (λ y. ltb y s) xs in
    let x : ℕ = get_or (by_size xs) n 0 in
    let at : kth_by_size xs n ≡ Some x = kth_some xs n x (some_not_below xs n s refl any) refl in
    (x, least_from_is xs s n refl ∙ at, successor_is xs n s x refl ((kth_is xs n x).0 at))

pub least_from_some : (xs : List ℕ) (s : ℕ) → IsSome (least_from xs s) ↔ Any (λ y. s ≤ y) xs
least_from_some xs s = (
  λ is. any_not_below xs _ s refl (not_lt (λ all. never (subst IsSome (least_from_is xs s _ refl ∙ kth_none xs _ (omega (arith, all))) is))),
  λ any. subst IsSome (sym (successor_found xs s any).1) refl,
)

pub least_from_successor : (xs : List ℕ) (s x : ℕ) → (least_from xs s ≡ Some x) ↔ IsSuccessor xs s x
least_from_successor xs s =
    just_where (least_from xs s) (IsSuccessor xs s) (one_successor xs s) (λ is. successor_found xs s ((least_from_some xs s).0 is))
    (λ x p. (least_from_some xs s).1 (p.element.0, x, p.element.1, p.element.2, p.within))

pub ruleset neighbours = (none_up_to, none_from, elements_past, elements_reversed, narrow_word, wide_word)
