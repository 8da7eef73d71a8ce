-- Saved forms of lists of symbols by their levels.
use Rattle.vers_saved.proofs.Names.{◌≡◌, ℕ, zero, suc, ◌+◌, ◌-◌, ◌*◌, ◌<◌, ◌≤◌, ◌⊎◌, Bool, false, List, [], ◌∷◌, ◌++◌, length, get_or, take, drop, refl, sym, ap, subst, ◌∙◌, inl, inr, arith, All, le-leb, and_from, cases_lt, cases_eq, set, below_more, get_or-set_other, get_or-set_same, ◌≢◌, lt_of_mul-lt-mul_right, mul-le-mul_right, nil_from_length, take-append-drop, flat_map_more, get_or-take, length-append, get_or_append_left, get_or-append_right, append-nil, append_assoc, limb_count, limbs, length-limbs, SYMBOL_LISTS, IsWhole, may_be_saved, AreWords, ArePadded, EndsPadded, row_words, level_words}
use Rattle.std.specs.Prelude.{flat_map, max}
use Rattle.vers_wavelet.specs.Symbols.{Symbols}
use Rattle.vers_wavelet.specs.Makers.{symbol_levels}
use Rattle.vers_wavelet.proofs.PublicLaws.{levels_even}
use Rattle.vers_saved.proofs.LimbLists.{limbs_fit, limbs_padded}
use Rattle.vers_saved.proofs.Rows.{row_words-is}
use Rattle.vers_saved.proofs.Shapes.{refuted, too_many, shape_bounds}
use Rattle.vers_saved.proofs.WordBytes.{fit_append}

-- each row has n bits
abbrev pub AllOf : List (List Bool) → ℕ → Type 0
AllOf ls n = All (λ l. length l ≡ n) ls

first_of : (l : List Bool) (ls : List (List Bool)) (n : ℕ) → AllOf (l ∷ ls) n → length l ≡ n
first_of l ls n even = even 0 [] (omega arith)

rest_of : (l : List Bool) (ls : List (List Bool)) (n : ℕ) → AllOf (l ∷ ls) n → AllOf ls n
rest_of l ls n even = λ k d h. even (suc k) d (omega arith)

pub length-rows : (ls : List (List Bool)) (n : ℕ) → AllOf ls n → length (flat_map limbs ls) ≡ length ls * limb_count n
length-rows [] n even = omega arith
length-rows (l ∷ ls) n even =
    let here = length-limbs l ∙ ap limb_count (first_of l ls n even) in
    omega (arith, here, length-append (limbs l) (flat_map limbs ls), length-rows ls n (rest_of l ls n even))

-- limb p of row k
pub row_limb : (ls : List (List Bool)) (n k p : ℕ) → AllOf ls n → k < length ls → p < limb_count n → get_or (flat_map limbs ls) (k * limb_count n + p) 0 ≡ get_or (limbs (get_or ls k [])) p 0
row_limb [] n k p even inside small = absurd (omega arith)
row_limb (l ∷ ls) n zero p even inside small =
    let here = length-limbs l ∙ ap limb_count (first_of l ls n even) in
    let position : 0 * limb_count n + p ≡ p = omega arith in
    ap (λ q. get_or (limbs l ++ flat_map limbs ls) q 0) position ∙ get_or_append_left (limbs l) (flat_map limbs ls) 0 p (omega (arith, here))
row_limb (l ∷ ls) n (suc k) p even inside small =
    let here : length (limbs l) ≡ limb_count n = length-limbs l ∙ ap limb_count (first_of l ls n even) in
    let position : suc k * limb_count n + p - limb_count n ≡ k * limb_count n + p = omega arith in
    get_or-append_right (limbs l) (flat_map limbs ls) (limb_count n) (suc k * limb_count n + p) 0 here (omega arith)
    ∙ ap (λ q. get_or (flat_map limbs ls) q 0) position ∙ row_limb ls n k p (rest_of l ls n even) (omega arith) small

rows_fit : (ls : List (List Bool)) → AreWords (flat_map limbs ls)
rows_fit [] = λ k. omega arith
rows_fit (l ∷ ls) = fit_append (limbs l) (flat_map limbs ls) (limbs_fit l) (rows_fit ls)

rows_end : (ls : List (List Bool)) (n : ℕ) → AllOf ls n → ArePadded (length ls) n (flat_map limbs ls)
rows_end ls n even = λ k inside.
    let l : List Bool = get_or ls k [] in
    let long : length l ≡ n = even k [] inside in
    elim (limbs_padded l) [
      | inl whole ↦ inl (omega (arith, whole, long))
      | inr small ↦ elim (cases_lt 0 (limb_count n)) [
        | inl some ↦ inr (rw (row_limb ls n k (limb_count n - 1) even inside (omega arith)) (rw long at small))
        | inr none ↦ inl (omega arith)
      ]
    ]

pub whole_levels : (symbols : Symbols) → 1 ≤ symbols.width → symbols.width ≤ 64 → symbols.width * limb_count (length symbols.items) ≤ 288230376151711743
    → IsWhole SYMBOL_LISTS (length symbols.items) symbols.width (level_words symbols.width symbols.items)
whole_levels symbols some few small =
    let even = levels_even symbols in
    let n : ℕ = length symbols.items in
    let ls : List (List Bool) = symbol_levels symbols in
    let size : row_words symbols.width n ≡ symbols.width * limb_count n = row_words-is symbols.width n in
    let few_items : n ≤ 18446744073709551552 = omega (arith, small, mul-le-mul_right (limb_count n) some) in
    record {
      may = and_from _ _ (and_from _ _ (le-leb _ _ some) (le-leb _ _ few)) (and_from _ _ (and_from _ _ (le-leb _ _ (omega arith)) (le-leb _ _ few_items)) (le-leb _ _ (omega (arith, small, size))));
      counted = length-rows ls n even.1 ∙ ap (λ w. w * limb_count n) even.0 ∙ sym size;
      fit = rows_fit ls;
      padded = subst (λ w. ArePadded w n (flat_map limbs ls)) even.0 (rows_end ls n even.1);
      ordered = refl;
    }

-- symbols of no bits, or of more than 64, are not saved
pub no_symbols : (width count : ℕ) → (width ≡ 0) ⊎ (64 < width) → may_be_saved SYMBOL_LISTS count width ≡ false
no_symbols width count wrong = refuted _ (λ may. let b = shape_bounds SYMBOL_LISTS count width may in elim wrong [ inl none ↦ omega (arith, b.0) | inr wide ↦ omega (arith, b.1) ])

-- limb k of all levels
pub level_limb : (symbols : Symbols) (k level limb : ℕ) (v : List Bool) → level * limb_count (length symbols.items) + limb ≡ k → limb < limb_count (length symbols.items) → level < symbols.width
    → v ≡ get_or (symbol_levels symbols) level [] → get_or (level_words symbols.width symbols.items) k 0 ≡ get_or (limbs v) limb 0
level_limb symbols k level limb v position small inside is =
    let even = levels_even symbols in
    rw (← position, is) (row_limb (symbol_levels symbols) (length symbols.items) level limb even.1 (omega (arith, even.0)) small)

pub length-level_words : (symbols : Symbols) → length (level_words symbols.width symbols.items) ≡ symbols.width * limb_count (length symbols.items)
length-level_words symbols = let even = levels_even symbols in length-rows (symbol_levels symbols) (length symbols.items) even.1 ∙ ap (λ w. w * limb_count (length symbols.items)) even.0

pub few_levels : (count width : ℕ) (words : List ℕ) → IsWhole SYMBOL_LISTS count width words → (1 ≤ width) × (width ≤ 64)
few_levels count width words whole = let b = shape_bounds SYMBOL_LISTS count width whole.may in (b.0, b.1)

pub ruleset symbols = (no_symbols, few_levels, too_many)

-- the level of a limb, of which there are at least one in a level
pub level_inside : (width bits limbs level limb k : ℕ) → limbs ≡ max (limb_count bits) 1 → level * limbs + limb ≡ k → k < width * limb_count bits → limb < limbs
    → (limbs ≡ limb_count bits) × (level < width)
level_inside width bits limbs level limb k is position inside small =
    let some : 0 < limb_count bits = elim (cases_eq (limb_count bits) 0) [
      | inl none ↦ let no : width * limb_count bits ≡ 0 = ap (λ n. width * n) none ∙ omega arith in absurd (omega (arith, no))
      | inr part ↦ omega arith
    ] in
    let same : limbs ≡ limb_count bits = omega (arith, is) in
    (same, lt_of_mul-lt-mul_right (limb_count bits) (let at = ap (λ n. level * n) same in omega (arith, at)))

-- one limb more
pub limb_next : (out words : List ℕ) (j from limb : ℕ) → j < length out → ((i : ℕ) → i < j → get_or out i 0 ≡ get_or words (from + i) 0) → limb ≡ get_or words (from + j) 0
    → (i : ℕ) → i < j + 1 → get_or (set out j limb) i 0 ≡ get_or words (from + i) 0
limb_next out words j from limb h so_far is =
    below_more _ _ (λ k less. let ne : k ≢ j = omega arith in rw get_or-set_other (so_far k less)) (rw get_or-set_same is)

-- ---- levels that are made of words, one after another

module _ (count width k : ℕ) (words rest : List ℕ) (ls : List (List Bool)) (whole : IsWhole SYMBOL_LISTS count width words) (many : length ls ≡ k) (even : AllOf ls count) (parts : flat_map limbs ls ++ rest ≡ words) where
  done : length (flat_map limbs ls) ≡ k * limb_count count
  done = length-rows ls count even ∙ ap (λ n. n * limb_count count) many

  left : k * limb_count count + length rest ≡ width * limb_count count
  left = omega (arith, done, ap length parts, length-append (flat_map limbs ls) rest, whole.counted, row_words-is width count)

  pub level_left : k < width → limb_count count ≤ length rest
  level_left h = omega (arith, left, mul-le-mul_right (limb_count count) h)

  pub none_left : width ≤ k → flat_map limbs ls ≡ words
  none_left h =
      let empty : rest ≡ [] = nil_from_length rest (omega (arith, left, mul-le-mul_right (limb_count count) h)) in
      sym (append-nil (flat_map limbs ls)) ∙ ap (λ l. flat_map limbs ls ++ l) (sym empty) ∙ parts

  pub level_padded : k < width → EndsPadded count (take (limb_count count) rest)
  level_padded h = elim (whole.padded k h) [
    | inl full ↦ inl full
    | inr small ↦ elim (cases_lt 0 (limb_count count)) [
      | inl some ↦
          let position : k * limb_count count + (limb_count count - 1) - k * limb_count count ≡ limb_count count - 1 = omega arith in
          let here : get_or (take (limb_count count) rest) (limb_count count - 1) 0 ≡ get_or words (k * limb_count count + (limb_count count - 1)) 0 =
          get_or-take (limb_count count) rest (limb_count count - 1) 0 (omega arith)
          ∙ ap (λ p. get_or rest p 0) (sym position)
          ∙ sym (get_or-append_right (flat_map limbs ls) rest (k * limb_count count) (k * limb_count count + (limb_count count - 1)) 0 done (omega arith))
          ∙ ap (λ l. get_or l (k * limb_count count + (limb_count count - 1)) 0) parts in
          inr (rw here small)
      | inr none ↦ inl (omega arith)
    ]
  ]

  pub level_more : (v : List Bool) → limbs v ≡ take (limb_count count) rest → flat_map limbs (ls ++ v ∷ []) ++ drop (limb_count count) rest ≡ words
  level_more v is =
      ap (λ l. l ++ drop (limb_count count) rest) (sym (flat_map_more limbs [] ls v) ∙ ap (λ l. flat_map limbs ls ++ l) is)
      ∙ append_assoc (flat_map limbs ls) (take (limb_count count) rest) (drop (limb_count count) rest)
      ∙ ap (λ l. flat_map limbs ls ++ l) (take-append-drop (limb_count count) rest) ∙ parts

pub count_bounded : (count width : ℕ) (words : List ℕ) → IsWhole SYMBOL_LISTS count width words → count ≤ 18446744073709551552
count_bounded count width words whole = (shape_bounds SYMBOL_LISTS count width whole.may).3

-- the symbols with these levels
pub made_symbols : (symbols : Symbols) (count width : ℕ) (words : List ℕ) (ls : List (List Bool)) → symbol_levels symbols ≡ ls → length ls ≡ width → AllOf ls count → flat_map limbs ls ≡ words → 1 ≤ width
    → (length symbols.items ≡ count) × (symbols.width ≡ width) × (level_words symbols.width symbols.items ≡ words)
made_symbols symbols count width words ls is many even same some =
    let all = levels_even symbols in
    let wide : symbols.width ≡ width = sym all.0 ∙ ap length is ∙ many in
    let first : length (get_or (symbol_levels symbols) 0 []) ≡ length symbols.items = all.1 0 [] (omega (arith, all.0, wide)) in
    let long : length symbols.items ≡ count = sym first ∙ ap (λ l. length (get_or l 0 [])) is ∙ even 0 [] (omega (arith, many)) in
    (long, wide, ap (flat_map limbs) is ∙ same)
