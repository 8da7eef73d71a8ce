-- The steps of iterators from both ends whose items are read by a counter.
use Rattle.vers_tally.proofs.Names.{◌≡◌, ℕ, ◌-◌, ◌<◌, ◌≤◌, List, [], ◌∷◌, length, get_or, reverse, refl, sym, ap, ◌∙◌, arith, Option, Some, None, slice_get, All, IfSome, Contains, get_or-reverse, length-reverse, slice_get-get_or, slice_get_within, get_or_from_slice_get, all_items, length-items_in, last_is, yields_first, yields_last, goes_first, goes_last}
use Rattle.std.specs.List.Sorted.{IsNonDecreasing}

-- ---- the first of ascending numbers is the least, and the last the greatest

pub first_element : (xs : List ℕ) (m : ℕ) → Some m ≡ slice_get xs 0 → Contains xs m
first_element xs m e = (0, slice_get_within xs 0 m (sym e), get_or_from_slice_get xs 0 m m (sym e))

first_least : (xs : List ℕ) (m : ℕ) → IsNonDecreasing xs → Some m ≡ slice_get xs 0 → All (λ x. m ≤ x) xs
first_least xs m up e k d h = omega (arith, up 0 k d (omega arith) h, get_or_from_slice_get xs 0 m d (sym e))

last_position : (xs : List ℕ) (m d : ℕ) → Some m ≡ slice_get (reverse xs) 0 → (0 < length xs) × (get_or xs (length xs - 1) d ≡ m)
last_position xs m d e =
    let inside : 0 < length (reverse xs) = slice_get_within (reverse xs) 0 m (sym e) in
    let some : 0 < length xs = omega (arith, length-reverse xs) in
    let z : length xs - 1 - 0 ≡ length xs - 1 = omega arith in
    (some, ap (λ k. get_or xs k d) (sym z) ∙ sym (get_or-reverse xs 0 d some) ∙ get_or_from_slice_get (reverse xs) 0 m d (sym e))

pub last_element : (xs : List ℕ) (m : ℕ) → Some m ≡ slice_get (reverse xs) 0 → Contains xs m
last_element xs m e = (length xs - 1, omega (arith, (last_position xs m m e).0), (last_position xs m m e).1)

last_greatest : (xs : List ℕ) (m : ℕ) → IsNonDecreasing xs → Some m ≡ slice_get (reverse xs) 0 → All (λ x. x ≤ m) xs
last_greatest xs m up e k d h = omega (arith, up k (length xs - 1) d (omega arith) (omega (arith, (last_position xs m d e).0)), (last_position xs m d e).1)

pub first_none : (xs : List ℕ) → None ≡ slice_get xs 0 → xs ≡ []
first_none [] e = refl
first_none (x ∷ xs) e = cc e

pub last_none : (xs : List ℕ) → None ≡ slice_get (reverse xs) 0 → xs ≡ []
last_none [] e = refl
last_none (x ∷ xs) e =
    let inside : 0 < length (reverse (x ∷ xs)) = omega (arith, length-reverse (x ∷ xs)) in
    cc (e, slice_get-get_or (reverse (x ∷ xs)) 0 x inside)

pub least_is : (xs : List ℕ) (r : Option ℕ) → IsNonDecreasing xs → r ≡ slice_get xs 0 → IfSome r (λ m. All (λ x. m ≤ x) xs)
least_is xs None up e = tt
least_is xs (Some m) up e = first_least xs m up e

pub greatest_is : (xs : List ℕ) (r : Option ℕ) → IsNonDecreasing xs → r ≡ slice_get (reverse xs) 0 → IfSome r (λ m. All (λ x. x ≤ m) xs)
greatest_is xs None up e = tt
greatest_is xs (Some m) up e = last_greatest xs m up e

-- makers, lengths and the last item
pub ruleset lists = (all_items, length-items_in, last_is)

-- `next` and `next_back`
pub ruleset ends = (yields_first, yields_last, goes_first, goes_last)

pub ruleset least = (first_element, least_is, first_none)

pub ruleset greatest = (last_element, greatest_is, last_none)
