-- Whether a document is in a list, and what two lists share.
use Rattle.postings.proofs.Names.{◌≡◌, ℕ, zero, suc, ◌+◌, ◌<◌, ◌≤◌, Bool, true, false, List, [], ◌∷◌, length, get_or, refl, sym, ap, subst, ◌∙◌, inl, inr, arith, filter, AllPairs, IsStrictlyIncreasing, cases_lt, common}
use Rattle.vers_sorted.specs.Sorted.{is_element}
use Rattle.vers_sorted.proofs.PublicLaws.{element_head, element_none, element_tail, not_element}
use Rattle.std.proofs.lemmas.List.Kept.{AllPairs-from_increasing}

-- each number is below all later ones
abbrev Rising : List ℕ → Type 0
Rising xs = AllPairs (λ x y. x < y) xs

-- a number is below all of a list
abbrev IsBelowAll : ℕ → List ℕ → Type 0
IsBelowAll x ys = (j : ℕ) → j < length ys → x < get_or ys j 0

rising_tail : (x : ℕ) (xs : List ℕ) → Rising (x ∷ xs) → Rising xs
rising_tail x xs up i j d before inside = up (suc i) (suc j) d (omega arith) (omega arith)

rising_head : (x : ℕ) (xs : List ℕ) → Rising (x ∷ xs) → IsBelowAll x xs
rising_head x xs up j inside = up 0 (suc j) 0 (omega arith) (omega arith)

-- what is below all of a list is not in it
not_among : (x : ℕ) (ys : List ℕ) → IsBelowAll x ys → is_element ys x ≡ false
not_among x ys below = not_element ys x (λ j inside same. omega (arith, same, below j inside))

-- ---- what two lists share

filter_same : (p q : ℕ → Bool) (zs : List ℕ) → ((j : ℕ) → j < length zs → p (get_or zs j 0) ≡ q (get_or zs j 0)) → filter p zs ≡ filter q zs
filter_same p q [] same = refl
filter_same p q (z ∷ zs) same =
    let first : p z ≡ q z = same 0 (omega arith) in
    rw (first, filter_same p q zs (λ j inside. same (suc j) (omega arith))) refl

filter_off : (p : ℕ → Bool) (z : ℕ) (zs : List ℕ) → p z ≡ false → filter p (z ∷ zs) ≡ filter p zs
filter_off p z zs off = rw off refl

filter_on : (p : ℕ → Bool) (z : ℕ) (zs : List ℕ) → p z ≡ true → filter p (z ∷ zs) ≡ z ∷ filter p zs
filter_on p z zs on = rw on refl

filter_none : (p : ℕ → Bool) (zs : List ℕ) → ((z : ℕ) → p z ≡ false) → filter p zs ≡ []
filter_none p [] none = refl
filter_none p (z ∷ zs) none = filter_off p z zs (none z) ∙ filter_none p zs none

-- a document less than all of the other list is not shared
shared_less : (x : ℕ) (xs ys : List ℕ) → IsBelowAll x ys → filter (is_element ys) xs ≡ filter (is_element xs) ys → filter (is_element ys) (x ∷ xs) ≡ filter (is_element (x ∷ xs)) ys
shared_less x xs ys below rest =
    filter_off (is_element ys) x xs (not_among x ys below) ∙ rest
    ∙ sym (filter_same (is_element (x ∷ xs)) (is_element xs) ys (λ j inside. element_tail x xs (get_or ys j 0) (λ same. omega (arith, same, below j inside))))

-- a document of both is
shared_equal : (x : ℕ) (xs ys : List ℕ) → IsBelowAll x xs → filter (is_element ys) xs ≡ filter (is_element xs) ys → IsBelowAll x ys → filter (is_element (x ∷ ys)) (x ∷ xs) ≡ filter (is_element (x ∷ xs)) (x ∷ ys)
shared_equal x xs ys first rest second =
    filter_on (is_element (x ∷ ys)) x xs (element_head x ys x refl)
    ∙ ap (λ (l : List ℕ). x ∷ l) (filter_same (is_element (x ∷ ys)) (is_element ys) xs (λ j inside. element_tail x ys (get_or xs j 0) (λ same. omega (arith, same, first j inside)))
    ∙ rest ∙ sym (filter_same (is_element (x ∷ xs)) (is_element xs) ys (λ j inside. element_tail x xs (get_or ys j 0) (λ same. omega (arith, same, second j inside)))))
    ∙ sym (filter_on (is_element (x ∷ xs)) x ys (element_head x xs x refl))

below_head : (x y : ℕ) (ys : List ℕ) → x < y → IsBelowAll y ys → IsBelowAll x (y ∷ ys)
below_head x y ys less above zero inside = less
below_head x y ys less above (suc j) inside = omega (arith, above j (omega arith))

shared : (n : ℕ) (xs ys : List ℕ) → length xs + length ys ≤ n → Rising xs → Rising ys → filter (is_element ys) xs ≡ filter (is_element xs) ys
shared n [] ys few up upper = sym (filter_none (is_element []) ys element_none)
shared n (x ∷ xs) [] few up upper = filter_none (is_element []) (x ∷ xs) element_none
shared zero (x ∷ xs) (y ∷ ys) few up upper = absurd (omega (arith, few))
shared (suc n) (x ∷ xs) (y ∷ ys) few up upper =
    let after = rising_head x xs up in
    let upon = rising_head y ys upper in
    elim (cases_lt x y) [
      | inl less ↦ shared_less x xs (y ∷ ys) (below_head x y ys less upon) (shared n xs (y ∷ ys) (omega (arith, few)) (rising_tail x xs up) upper)
      | inr more ↦ elim (cases_lt y x) [
        | inl less ↦ sym (shared_less y ys (x ∷ xs) (below_head y x xs less after) (sym (shared n (x ∷ xs) ys (omega (arith, few)) up (rising_tail y ys upper))))
        | inr equal ↦ let same : y ≡ x = omega (arith, more, equal) in
            subst (λ z. filter (is_element (z ∷ ys)) (x ∷ xs) ≡ filter (is_element (x ∷ xs)) (z ∷ ys)) (sym same)
            (shared_equal x xs ys after (shared n xs ys (omega (arith, few)) (rising_tail x xs up) (rising_tail y ys upper)) (subst (λ z. IsBelowAll z ys) same upon))
      ]
    ]

-- either of two lists may be looked through
pub common_either : (documents others : List ℕ) → IsStrictlyIncreasing documents → IsStrictlyIncreasing others → common documents others ≡ common others documents
unfolding common
common_either documents others up upper = grind (arith, shared, AllPairs-from_increasing)
