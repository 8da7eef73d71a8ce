-- Counts over lists, and over what a test keeps of them.
use Rattle.wavelet_tree.proofs.Names.{◌≡◌, ℕ, zero, suc, ◌+◌, ◌-◌, ◌^◌, ◌%◌, ◌<◌, ◌≤◌, Bool, true, false, cond, not, ltb, leb, List, [], ◌∷◌, ◌++◌, map, length, take, drop, get_or, refl, sym, ap, ◌∙◌, arith, inl, inr, filter, count_by, All, cases_Bool, cases_lt, lt-ltb, le-ltb, le-leb, lt-leb, drop-cons, take-append-drop, take_at, get_or_at, filter-append, length-filter, length-take, sum_by-cons, count_by-le-length, sum_by-filter_both, lows, highs, shift}

-- a test as a number
abbrev pub one : Bool → ℕ
one t = cond t 1 0

module _ {X : Type 0} where
  pub count_cons : (p : X → Bool) (x : X) (xs : List X) → count_by p (x ∷ xs) ≡ one (p x) + count_by p xs
  count_cons p x xs = sum_by-cons (λ y. cond (p y) 1 0) x xs

  pub count_on : (p : X → Bool) (x : X) (xs : List X) → p x ≡ true → count_by p (x ∷ xs) ≡ suc (count_by p xs)
  count_on p x xs on = omega (arith, count_cons p x xs, ap one on)

  pub count_off : (p : X → Bool) (x : X) (xs : List X) → p x ≡ false → count_by p (x ∷ xs) ≡ count_by p xs
  count_off p x xs off = omega (arith, count_cons p x xs, ap one off)

  -- what a test keeps has as many that pass another one, if whatever passes this one is kept
  pub count_kept : (p e : X → Bool) → ((x : X) → e x ≡ true → p x ≡ true) → (xs : List X) → count_by e (filter p xs) ≡ count_by e xs
  count_kept p e only [] = refl
  count_kept p e only (x ∷ xs) =
      elim (cases_Bool (p x)) [
        | inl on ↦
            let kept : filter p (x ∷ xs) ≡ x ∷ filter p xs = rw on refl in
            rw kept (omega (arith, count_cons e x xs, count_cons e x (filter p xs), count_kept p e only xs))
        | inr off ↦
            let kept : filter p (x ∷ xs) ≡ filter p xs = rw off refl in
            let none : e x ≡ false = elim (cases_Bool (e x)) [ inl passes ↦ cc (only x passes) | inr fails ↦ fails ] in
            rw kept (count_kept p e only xs ∙ sym (count_off e x xs none))
      ]

  kept_split : (p : X → Bool) (xs : List X) (r : ℕ) → filter p xs ≡ filter p (take r xs) ++ filter p (drop r xs)
  kept_split p xs r = ap (λ (l : List X). filter p l) (sym (take-append-drop r xs)) ∙ filter-append p (take r xs) (drop r xs)

  -- those of the first elements are the first of them, and the next one is after these
  pub kept_first : (p : X → Bool) (xs : List X) (r : ℕ) → take (count_by p (take r xs)) (filter p xs) ≡ filter p (take r xs)
  kept_first p xs r = rw (kept_split p xs r) (take_at (filter p (take r xs)) (filter p (drop r xs)) _ (length-filter p (take r xs)))

  pub kept_at : (p : X → Bool) (xs : List X) (r : ℕ) (d : X) → r < length xs → p (get_or xs r d) ≡ true → get_or (filter p xs) (count_by p (take r xs)) d ≡ get_or xs r d
  kept_at p xs r d inside passes =
      let next : filter p (drop r xs) ≡ get_or xs r d ∷ filter p (drop (suc r) xs) = rw (drop-cons xs r d inside, passes) refl in
      let made : filter p xs ≡ filter p (take r xs) ++ get_or xs r d ∷ filter p (drop (suc r) xs) =
      kept_split p xs r ∙ ap (λ (l : List X). filter p (take r xs) ++ l) next in
      rw made (get_or_at (filter p (take r xs)) (get_or xs r d) (filter p (drop (suc r) xs)) d _ (length-filter p (take r xs)))

  -- the element is one of those that are kept
  pub kept_inside : (p : X → Bool) (xs : List X) (r : ℕ) (d : X) → r < length xs → p (get_or xs r d) ≡ true → count_by p (take r xs) < length (filter p xs)
  kept_inside p [] r d inside passes = absurd (omega (arith, inside))
  kept_inside p (x ∷ xs) zero d inside passes = let kept : filter p (x ∷ xs) ≡ x ∷ filter p xs = rw passes refl in rw kept (omega arith)
  kept_inside p (x ∷ xs) (suc r) d inside passes =
      let deeper = kept_inside p xs r d (omega (arith, inside)) passes in
      omega (arith, length-filter p (x ∷ xs), length-filter p xs, count_cons p x xs, count_cons p x (take r xs), deeper)

  -- as many of the first elements are kept, counted by a test that only these pass
  pub count_first : (p e : X → Bool) → ((x : X) → e x ≡ true → p x ≡ true) → (xs : List X) (r : ℕ) → count_by e (take (count_by p (take r xs)) (filter p xs)) ≡ count_by e (take r xs)
  count_first p e only xs r = ap (count_by e) (kept_first p xs r) ∙ count_kept p e only (take r xs)

  pub count_none : (p : X → Bool) (xs : List X) → All (λ x. p x ≡ false) xs → count_by p xs ≡ 0
  count_none p [] none = refl
  count_none p (x ∷ xs) none = count_off p x xs (none 0 x (omega arith)) ∙ count_none p xs (λ j d inside. none (suc j) d (omega (arith, inside)))

  pub count_all : (p : X → Bool) (xs : List X) → All (λ x. p x ≡ true) xs → count_by p xs ≡ length xs
  count_all p [] all = refl
  count_all p (x ∷ xs) all = count_on p x xs (all 0 x (omega arith)) ∙ ap (λ n. suc n) (count_all p xs (λ j d inside. all (suc j) d (omega (arith, inside))))

  at_cons : (P : X → Type 0) (x : X) (xs : List X) → P x → All P xs → All P (x ∷ xs)
  at_cons P x xs first others = λ k d inside. at k d inside
    where
      at : (k : ℕ) (d : X) → k < length (x ∷ xs) → P (get_or (x ∷ xs) k d)
      at zero d inside = first
      at (suc k) d inside = others k d (omega (arith, inside))

  pub none_counted : (p : X → Bool) (xs : List X) → count_by p xs ≡ 0 → All (λ x. p x ≡ false) xs
  none_counted p [] none = λ k d inside. absurd (omega (arith, inside))
  none_counted p (x ∷ xs) none =
      at_cons (λ y. p y ≡ false) x xs (elim (cases_Bool (p x)) [ inl on ↦ absurd (omega (arith, none, count_on p x xs on)) | inr off ↦ off ])
      (none_counted p xs (omega (arith, none, count_cons p x xs)))

  pub all_counted : (p : X → Bool) (xs : List X) → count_by p xs ≡ length xs → All (λ x. p x ≡ true) xs
  all_counted p [] all = λ k d inside. absurd (omega (arith, inside))
  all_counted p (x ∷ xs) all =
      let on : p x ≡ true = elim (cases_Bool (p x)) [ inl on ↦ on | inr off ↦ absurd (omega (arith, all, count_off p x xs off, count_by-le-length p xs)) ] in
      at_cons (λ y. p y ≡ true) x xs on (all_counted p xs (omega (arith, all, count_on p x xs on)))

  pub count_both : (p q : X → Bool) → ((x : X) → q x ≡ not (p x)) → (xs : List X) → count_by p xs + count_by q xs ≡ length xs
  count_both p q other [] = refl
  count_both p q other (x ∷ xs) =
      let head : one (p x) + one (q x) ≡ 1 = rw (other x) (both (p x)) in
      omega (arith, head, count_cons p x xs, count_cons q x xs, count_both p q other xs)
    where
      both : (b : Bool) → one b + one (not b) ≡ 1
      both true = refl
      both false = refl

  pub filter-map : {Y : Type 0} (f : X → Y) (p : Y → Bool) (xs : List X) → map f (filter (λ x. p (f x)) xs) ≡ filter p (map f xs)
  filter-map f p [] = refl
  filter-map f p (x ∷ xs) = elim (cases_Bool (p (f x))) [ inl on ↦ rw on (ap (λ l. f x ∷ l) (filter-map f p xs)) | inr off ↦ rw off (filter-map f p xs) ]

-- ---- both sides of a split

pub sides : (m x : ℕ) → leb m x ≡ not (ltb x m)
sides m x = elim (cases_lt x m) [ inl less ↦ rw (lt-ltb x m less, lt-leb m x less) refl | inr more ↦ rw (le-ltb x m more, le-leb m x more) refl ]

-- the elements below a symbol past the split are those on the left, and some on the right
pub count_sides : (m : ℕ) (e : ℕ → Bool) (xs : List ℕ) → count_by e xs ≡ count_by e (lows m xs) + count_by e (highs m xs)
count_sides m e xs = sym (sum_by-filter_both (λ x. ltb x m) (λ x. leb m x) (sides m) (λ y. cond (e y) 1 0) xs)

-- of the first i elements, those on the left and those on the right
pub count_first_sides : (m : ℕ) (xs : List ℕ) (i : ℕ) → i ≤ length xs → count_by (λ x. ltb x m) (take i xs) + count_by (λ x. leb m x) (take i xs) ≡ i
count_first_sides m xs i within = count_both (λ x. ltb x m) (λ x. leb m x) (sides m) (take i xs) ∙ length-take i xs ∙ omega (arith, within)

-- what is added modulo 2 ^ 64
pub shifted : (to from k : ℕ) → from ≤ k → to < 2 ^ 64 → from < 2 ^ 64 → to + (k - from) < 2 ^ 64 → (k + shift to from) % 2 ^ 64 ≡ to + (k - from)
shifted to from k less fits other small =
    let z : ℕ = (to + (2 ^ 64 - from)) % 2 ^ 64 in
    let one : z ≡ (to + (2 ^ 64 - from)) % 2 ^ 64 = refl in
    let goal : (k + z) % 2 ^ 64 ≡ to + (k - from) = omega (arith, one) in goal
