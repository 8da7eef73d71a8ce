-- The searches for a rise of the excess find the positions that their facts describe.
use Rattle.vers_trees.proofs.Names.{◌≡◌, ℕ, zero, suc, ◌+◌, ◌-◌, ◌<◌, ◌≤◌, ◌≢◌, Bool, cond, List, [], ◌∷◌, ◌++◌, length, ℤ, ◌+ℤ◌, Option, Some, None, MatchOption, arith, sym, refl, ap, ◌∙◌, find, filter, Decides, range_with_len, last_or, map-id, filter_of_map_range_with_len_more, cases_lt, lt-ltb, le-ltb, Decides-int_eq, excess, first_rise_after, last_rise_before, IsFirstRiseAfter, IsLastRiseBefore}

-- j is the first number from a on and below b that has P, and the last below n
pub record IsFirst (P : ℕ → Type 0) (a b j : ℕ) : Type 0 where
  pub from : a ≤ j
  pub below : j < b
  pub holds : P j
  pub first : (k : ℕ) → a ≤ k → k < j → P k → ⊥

pub record IsLast (P : ℕ → Type 0) (n j : ℕ) : Type 0 where
  pub below : j < n
  pub holds : P j
  pub last : (k : ℕ) → j < k → k < n → P k → ⊥

-- two answers to one question are the same
same_answer : (o p : Option ℕ) (N : Type 0) (Is : ℕ → Type 0) → MatchOption o N Is → MatchOption p N Is → (N → (j : ℕ) → Is j → ⊥) → ((i j : ℕ) → Is i → Is j → i ≡ j) → o ≡ p
same_answer o p N Is m q n u = grind arith

-- what follows from an answer that is none, and from one that is a position
pub by_answer : (P : Option ℕ → Type 0) (o : Option ℕ) → (o ≡ None → P None) → ((j : ℕ) → o ≡ Some j → P (Some j)) → P o
by_answer P None n s = n refl
by_answer P (Some j) n s = s j refl

-- a search by a test that decides P
pub find_first : (test : ℕ → Bool) (P : ℕ → Type 0) → ((k : ℕ) → Decides (test k) (P k)) → (a n : ℕ) → MatchOption (find test (range_with_len a n)) ((k : ℕ) → a ≤ k → k < a + n → P k → ⊥) (λ j. IsFirst P a (a + n) j)
find_first test P d a zero = λ k x y p. omega arith
find_first test P d a (suc n) = grind (arith, find_first test P d (a + 1) n)

pub find_is : (test : ℕ → Bool) (P : ℕ → Type 0) → ((k : ℕ) → Decides (test k) (P k)) → (a n : ℕ) (o : Option ℕ) → MatchOption o ((k : ℕ) → a ≤ k → k < a + n → P k → ⊥) (IsFirst P a (a + n)) → find test (range_with_len a n) ≡ o
find_is test P d a n o q = same_answer _ o _ (IsFirst P a (a + n)) (find_first test P d a n) q (λ h j r. h j r.from r.below r.holds) (λ i j h r. grind (arith, h.first j, r.first i))

last_append : {X : Type 0} → (o : Option X) (xs ys : List X) → last_or o (xs ++ ys) ≡ last_or (last_or o xs) ys
last_append o [] ys = refl
last_append o (x ∷ xs) ys = last_append (Some x) xs ys

filter_more : (test : ℕ → Bool) (n : ℕ) → filter test (range_with_len 0 (n + 1)) ≡ filter test (range_with_len 0 n) ++ cond (test n) (n ∷ []) []
filter_more test n =
    let same = λ (m : ℕ). ap (filter test) (map-id (range_with_len 0 m)) in
    sym (same (n + 1)) ∙ filter_of_map_range_with_len_more test (λ (x : ℕ). x) 0 n n (omega arith) ∙ ap (λ (xs : List ℕ). xs ++ cond (test n) (n ∷ []) []) (same n)

pub find_last : (test : ℕ → Bool) (P : ℕ → Type 0) → ((k : ℕ) → Decides (test k) (P k)) → (n : ℕ) → MatchOption (last_or None (filter test (range_with_len 0 n))) ((k : ℕ) → k < n → P k → ⊥) (λ j. IsLast P n j)
find_last test P d zero = λ k y p. omega arith
find_last test P d (suc n) =
    let e : suc n ≡ n + 1 = omega arith in
    let more = ap (λ (m : ℕ). last_or None (filter test (range_with_len 0 m))) e ∙ ap (last_or None) (filter_more test n) ∙ last_append None (filter test (range_with_len 0 n)) (cond (test n) (n ∷ []) []) in
    grind (arith, find_last test P d n)

pub last_is : (test : ℕ → Bool) (P : ℕ → Type 0) → ((k : ℕ) → Decides (test k) (P k)) → (n : ℕ) (o : Option ℕ) → MatchOption o ((k : ℕ) → k < n → P k → ⊥) (IsLast P n) → last_or None (filter test (range_with_len 0 n)) ≡ o
last_is test P d n o q = same_answer _ o _ (IsLast P n) (find_last test P d n) q (λ h j r. h j r.below r.holds) (λ i j h r. grind (arith, h.last j, r.last i))

-- ---- where the excess rises by r, after i and before i
abbrev rises_to : List Bool → ℕ → ℤ → ℕ → Type 0
rises_to l i r k = excess l (k + 1) ≡ excess l (i + 1) +ℤ r

abbrev rises_from : List Bool → ℕ → ℤ → ℕ → Type 0
rises_from l i r k = excess l k ≡ excess l i +ℤ r

pub after_some : (l : List Bool) (i : ℕ) (r : ℤ) (j : ℕ) → first_rise_after l i r ≡ Some j → IsFirstRiseAfter l i r j
unfolding first_rise_after
after_some l i r j h =
    let f : IsFirst (rises_to l i r) (i + 1) (i + 1 + (length l - (i + 1))) j = rw h at (find_first _ (rises_to l i r) (λ k. Decides-int_eq _ _) (i + 1) (length l - (i + 1))) in
    record { after = omega arith; inside = omega arith; sum = f.holds; first = λ k x y. f.first k (omega arith) y }

pub after_is : (l : List Bool) (i : ℕ) (r : ℤ) (j : ℕ) → IsFirstRiseAfter l i r j → first_rise_after l i r ≡ Some j
unfolding first_rise_after
after_is l i r j p =
    find_is _ (rises_to l i r) (λ k. Decides-int_eq _ _) (i + 1) (length l - (i + 1)) (Some j) (record { from = omega arith; below = omega arith; holds = p.sum; first = λ k x y. p.first k (omega arith) y })

pub after_none : (l : List Bool) (i : ℕ) (r : ℤ) → first_rise_after l i r ≡ None → (k : ℕ) → i < k → k < length l → excess l (k + 1) ≢ excess l (i + 1) +ℤ r
unfolding first_rise_after
after_none l i r h k x y = (rw h at (find_first _ (rises_to l i r) (λ k. Decides-int_eq _ _) (i + 1) (length l - (i + 1)))) k (omega arith) (omega arith)

pub none_after : (l : List Bool) (i : ℕ) (r : ℤ) → ((k : ℕ) → i < k → k < length l → excess l (k + 1) ≢ excess l (i + 1) +ℤ r) → first_rise_after l i r ≡ None
none_after l i r h = by_answer (λ o. o ≡ None) (first_rise_after l i r) (λ e. refl) (λ j e. let f = after_some l i r j e in absurd (h j f.after f.inside f.sum))

-- a position that the list doesn't have
pub before_past : (l : List Bool) (i : ℕ) (r : ℤ) → length l ≤ i → last_rise_before l i r ≡ None
unfolding last_rise_before
before_past l i r g = rw (le-ltb i (length l) g) refl

last_rise : (l : List Bool) (i : ℕ) (r : ℤ) → i < length l → MatchOption (last_rise_before l i r) ((k : ℕ) → k < i → excess l k ≢ excess l i +ℤ r) (λ j. IsLast (rises_from l i r) i j)
unfolding last_rise_before
last_rise l i r g = rw (lt-ltb i (length l) g) (find_last _ (rises_from l i r) (λ k. Decides-int_eq _ _) i)

pub before_some : (l : List Bool) (i : ℕ) (r : ℤ) (j : ℕ) → last_rise_before l i r ≡ Some j → IsLastRiseBefore l i r j
before_some l i r j h = grind (arith, cases_lt i (length l), before_past l i r, last_rise l i r)

pub before_is : (l : List Bool) (i : ℕ) (r : ℤ) (j : ℕ) → IsLastRiseBefore l i r j → last_rise_before l i r ≡ Some j
unfolding last_rise_before
before_is l i r j p = rw (lt-ltb i (length l) p.inside) (last_is _ (rises_from l i r) (λ k. Decides-int_eq _ _) i (Some j) (record { below = p.before; holds = p.sum; last = p.last }))

pub before_none : (l : List Bool) (i : ℕ) (r : ℤ) → i < length l → last_rise_before l i r ≡ None → (k : ℕ) → k < i → excess l k ≢ excess l i +ℤ r
before_none l i r g h = rw h at (last_rise l i r g)

pub none_before : (l : List Bool) (i : ℕ) (r : ℤ) → ((k : ℕ) → k < i → excess l k ≢ excess l i +ℤ r) → last_rise_before l i r ≡ None
none_before l i r h = by_answer (λ o. o ≡ None) (last_rise_before l i r) (λ e. refl) (λ j e. let f = before_some l i r j e in absurd (h j f.before f.sum))
