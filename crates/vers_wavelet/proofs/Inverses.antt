-- Any levels of one length are those of exactly one list of symbols.
use Rattle.vers_wavelet.proofs.Names.{◌≡◌, ℕ, zero, suc, ◌/◌, ◌%◌, ◌^◌, ◌<◌, ◌⊎◌, inl, inr, Bool, false, not, List, [], ◌∷◌, length, get_or, refl, sym, ap, ◌∙◌, arith, eqb, map, filter, All, cases_Bool, get_or-map, get_or_default, length-map, map-append, same_lists, div-add-mod', bit_at, bit_at_cat_low, Symbols, AreLevels, AllHaveLength, digit, next, value, values, sorted_by, levels_of, symbol_levels}
use Rattle.vers_wavelet.proofs.Values.{from_above}
use Rattle.vers_wavelet.proofs.Steps.{value_parts, even_first, even_rest}
use Rattle.vers_wavelet.proofs.Lists.{length-values, get_or-values, values_fit}
use Rattle.vers_wavelet.proofs.Makes.{goes_on, length-sorted, length-levels_of, values_made, small_left}
use Rattle.vers_wavelet.proofs.Makes as Makes

-- a test after a function, over a list and over what the function makes of it
mapped_filter : {X Y : Type 0} (p : Y → Bool) (q : X → Bool) (h : X → Y) → ((x : X) → p (h x) ≡ q x) → (xs : List X) → filter p (map h xs) ≡ map h (filter q xs)
mapped_filter p q h same [] = refl
mapped_filter p q h same (x ∷ xs) = grind (arith, cases_Bool (q x), same x, mapped_filter p q h same xs)

mapped_alike : {X Y Z : Type 0} (p : Y → Z) (q : X → Z) (h : X → Y) → ((x : X) → p (h x) ≡ q x) → (xs : List X) → map p (map h xs) ≡ map q xs
mapped_alike p q h same [] = refl
mapped_alike p q h same (x ∷ xs) = grind (arith, same x, mapped_alike p q h same xs)

mapped_sorted : {X Y : Type 0} (p : Y → Bool) (q : X → Bool) (h : X → Y) → ((x : X) → p (h x) ≡ q x) → (xs : List X) → sorted_by p (map h xs) ≡ map h (sorted_by q xs)
unfolding sorted_by
mapped_sorted p q h same xs =
    let low = mapped_filter (λ y. not (p y)) (λ x. not (q x)) h (λ x. ap not (same x)) xs in
    let high = mapped_filter p q h same xs in
    rw (low, high) (sym (map-append h _ _))

-- items whose k lowest digits are those of what the function makes of them have its levels
levels_alike : {X Y : Type 0} (f : X → ℕ) (g : Y → ℕ) (h : X → Y) (k : ℕ) → ((x : X) (j : ℕ) → j < k → digit (g (h x)) j ≡ digit (f x) j) → (xs : List X) → levels_of g k (map h xs) ≡ levels_of f k xs
unfolding levels_of
levels_alike f g h zero same xs = refl
levels_alike {X = X} f g h (suc k) same xs =
    let here = λ (x : X). same x k (omega arith) in
    let first = mapped_alike (λ y. digit (g y) k) (λ x. digit (f x) k) h here xs in
    let sorted = mapped_sorted (λ y. digit (g y) k) (λ x. digit (f x) k) h here xs in
    rw (first, sorted) (ap (λ l. map (λ x. digit (f x) k) xs ∷ l) (levels_alike f g h k (λ x j small. same x j (omega arith)) (sorted_by (λ x. digit (f x) k) xs)))

low_digit : (k y j : ℕ) → j < k → digit (y % 2 ^ k) j ≡ digit y j
low_digit k y j small = ap (λ d. eqb d 1) (sym (bit_at_cat_low (y / 2 ^ k) k (y % 2 ^ k) j small) ∙ ap (λ n. bit_at n j) (div-add-mod' y (2 ^ k)))

-- the highest digits of the symbols are the first level
first_level : (l : List Bool) (ls : List (List Bool)) (n : ℕ) → length l ≡ n → map (λ y. digit y (length ls)) (values (l ∷ ls) n) ≡ l
first_level l ls n long =
    same_lists _ l (length-map (values (l ∷ ls) n) (λ y. digit y (length ls)) ∙ length-values (l ∷ ls) n ∙ sym long) (λ p d h.
    let small : p < n = omega (arith, h, length-map (values (l ∷ ls) n) (λ y. digit y (length ls)), length-values (l ∷ ls) n) in
    get_or-map (λ y. digit y (length ls)) (values (l ∷ ls) n) p 0 d (omega (arith, small, length-values (l ∷ ls) n))
    ∙ ap (λ y. digit y (length ls)) (get_or-values (l ∷ ls) n p 0 small)
    ∙ (value_parts l ls p (get_or l p d) (get_or_default l p false d (omega (arith, long)))).0)

-- sorted by their highest digits, the symbols have the other levels
module _ (l : List Bool) (ls : List (List Bool)) (n : ℕ) (long : length l ≡ n) where
  abbrev all : List ℕ
  all = values (l ∷ ls) n

  abbrev top : ℕ → Bool
  top y = digit y (length ls)

  abbrev low : ℕ → ℕ
  low y = y % 2 ^ length ls

  moved : (p : ℕ) → p < n → low (get_or (sorted_by top all) p 0) ≡ value ls p
  moved p h =
      let above = from_above l p (omega (arith, h, long)) in
      let i : ℕ = above.0 in
      let b : Bool = get_or l i false in
      let inside : i < n = omega (arith, above.1, long) in
      let is : get_or all i 0 ≡ value (l ∷ ls) i = get_or-values (l ∷ ls) n i 0 inside in
      let parts = value_parts l ls i b refl in
      let on = goes_on top all i 0 (omega (arith, inside, length-values (l ∷ ls) n)) b (ap top is ∙ parts.0) in
      let position : next b (map top all) i ≡ p = ap (λ v. next b v i) (first_level l ls n long) ∙ above.2 in
      ap (λ q. low (get_or (sorted_by top all) q 0)) (sym position) ∙ ap low (on.1 ∙ is) ∙ parts.1 ∙ ap (value ls) above.2

  sorted_below : map low (sorted_by top all) ≡ values ls n
  sorted_below =
      let many : length (sorted_by top all) ≡ n = length-sorted top all ∙ length-values (l ∷ ls) n in
      same_lists _ _ (length-map (sorted_by top all) low ∙ many ∙ sym (length-values ls n)) (λ p d h.
      let small : p < n = omega (arith, h, many, length-map (sorted_by top all) low) in
      get_or-map low (sorted_by top all) p 0 d (omega (arith, small, many)) ∙ moved p small ∙ sym (get_or-values ls n p d small))

pub rebuilt : (ls : List (List Bool)) (n : ℕ) → AllHaveLength ls n → levels_of (λ y. y) (length ls) (values ls n) ≡ ls
unfolding levels_of
rebuilt [] n even = refl
rebuilt (l ∷ ls) n even =
    let long = even_first l ls n even in
    let sorted : List ℕ = sorted_by (λ y. digit y (length ls)) (values (l ∷ ls) n) in
    let below : levels_of (λ y. y) (length ls) sorted ≡ ls =
    sym (levels_alike (λ y. y) (λ y. y) (λ y. y % 2 ^ length ls) (length ls) (λ y j h. low_digit (length ls) y j h) sorted)
    ∙ ap (levels_of (λ y. y) (length ls)) (sorted_below l ls n long) ∙ rebuilt ls n (even_rest l ls n even) in
    rw (first_level l ls n long) (ap (λ m. l ∷ m) below)

-- ---- of lists of symbols

pub length-symbol_levels : (symbols : Symbols) → length (symbol_levels symbols) ≡ symbols.width
unfolding symbol_levels
length-symbol_levels symbols = length-levels_of (λ y. y) symbols.width symbols.items

pub levels_even : (symbols : Symbols) → (length (symbol_levels symbols) ≡ symbols.width) × All (λ l. length l ≡ length symbols.items) (symbol_levels symbols)
unfolding symbol_levels
levels_even symbols = (length-symbol_levels symbols, Makes.levels_even (λ y. y) symbols.width symbols.items)

pub symbol_levels_are : (ls : List (List Bool)) (n : ℕ) → AllHaveLength ls n → symbol_levels (record { width = length ls; items = values ls n }) ≡ ls
unfolding symbol_levels
symbol_levels_are ls n even = rebuilt ls n even

pub some_symbols : (ls : List (List Bool)) (n : ℕ) → All (λ l. length l ≡ n) ls
    → (symbols : Symbols) × (length symbols.items ≡ n) × All (λ y. y < 2 ^ symbols.width) symbols.items × (symbol_levels symbols ≡ ls)
some_symbols ls n even = (record { width = length ls; items = values ls n }, length-values ls n, values_fit ls n, symbol_levels_are ls n even)

-- the symbols that levels hold
pub items_are : (symbols : Symbols) → All (λ y. y < 2 ^ symbols.width) symbols.items → values (symbol_levels symbols) (length symbols.items) ≡ symbols.items
unfolding symbol_levels
items_are symbols fit = values_made (λ y. y) symbols.width symbols.items ∙ small_left symbols.items (2 ^ symbols.width) fit

pub levels_tell : (xs ys : Symbols) → All (λ y. y < 2 ^ xs.width) xs.items → All (λ y. y < 2 ^ ys.width) ys.items → length xs.items ≡ length ys.items → symbol_levels xs ≡ symbol_levels ys → xs ≡ ys
levels_tell xs ys fit_x fit_y long same =
    let wide : xs.width ≡ ys.width = sym (length-symbol_levels xs) ∙ ap length same ∙ length-symbol_levels ys in
    let items : xs.items ≡ ys.items = sym (items_are xs fit_x) ∙ ap (λ l. values l (length xs.items)) same ∙ ap (values (symbol_levels ys)) long ∙ items_are ys fit_y in
    ap (λ w. record { width = w; items = xs.items }) wide ∙ ap (λ l. record { width = ys.width; items = l }) items

-- the levels that have the symbols are their levels
pub levels_are : (symbols : Symbols) (ls : List (List Bool)) → AreLevels ls (length symbols.items) → length ls ≡ symbols.width → values ls (length symbols.items) ≡ symbols.items → symbol_levels symbols ≡ ls
unfolding symbol_levels
levels_are symbols ls levels wide holds =
    ap (λ w. levels_of (λ y. y) w symbols.items) (sym wide) ∙ ap (levels_of (λ y. y) (length ls)) (sym holds) ∙ rebuilt ls (length symbols.items) levels.even

pub level_is : (symbols : Symbols) (ls : List (List Bool)) (k : ℕ) (v : List Bool) → AreLevels ls (length symbols.items) → length ls ≡ symbols.width → values ls (length symbols.items) ≡ symbols.items → k < symbols.width → v ≡ get_or ls k v
    → v ≡ get_or (symbol_levels symbols) k []
level_is symbols ls k v levels wide holds inside at =
    at ∙ get_or_default ls k v [] (omega (arith, wide)) ∙ ap (λ l. get_or l k []) (sym (levels_are symbols ls levels wide holds))

pub even_is : (ls : List (List Bool)) (n : ℕ) → AllHaveLength ls n → length ls ≡ 0 ⊎ (n ≡ length (get_or ls 0 []))
even_is [] n even = inl refl
even_is (l ∷ ls) n even = inr (sym (even 0 [] (omega arith)))
