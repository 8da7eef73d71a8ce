-- How often a digit is a one, level by level, and what the levels take.
use Rattle.vers_wavelet.proofs.Names.{◌≡◌, ℕ, zero, suc, ◌+◌, ◌<◌, Bool, true, false, List, [], ◌∷◌, length, get_or, refl, sym, ap, ◌∙◌, arith, range_with_len, sum_by, AllZip, each_same, map-id, length-map, get_or-map, sum_by-map-range_with_len_more, bit_at_cat_low, is_bit, count, count_both, index_size, digit_list, next, value, values, count_positions, digit, AllHaveLength, AreLevels}
use Rattle.vers_wavelet.proofs.Values.{counts_same, split_all, value_is}
use Rattle.vers_wavelet.proofs.Steps.{value_parts, even_first, even_rest}
use Rattle.vers_wavelet.proofs.Lists.{length-values, get_or-values, taken_counts}

-- the positions of a level take all positions of the next, each once
all_moved : (g : ℕ → Bool) (l : List Bool) (n : ℕ) → length l ≡ n → count_positions (λ p. g (next (get_or l p false) l p)) n ≡ count_positions g n
all_moved g l n long =
    let same = λ (b : Bool) (p : ℕ) (is : get_or l p false ≡ b). ap (λ c. g (next c l p)) is in
    omega (arith, split_all l (λ p. g (next (get_or l p false) l p)) g g (same false) (same true) n long)

digit_low : (l : List Bool) (ls : List (List Bool)) (p i : ℕ) → i < length ls → digit (value (l ∷ ls) p) i ≡ digit (value ls (next (get_or l p false) l p)) i
digit_low l ls p i h = grind (arith, value_is, bit_at_cat_low, value, next)

-- the ones of a level are the symbols whose digit there is 1
counts_digit : (ls : List (List Bool)) (n : ℕ) → AllHaveLength ls n → (k i : ℕ) → k + (i + 1) ≡ length ls → (v : List Bool) → v ≡ get_or ls k v
    → count_positions (λ p. digit (value ls p) i) n ≡ count_positions (λ p. get_or v p false) n
counts_digit [] n even k i e v at = absurd (omega arith)
counts_digit (l ∷ ls) n even zero i e v at =
    let here : i ≡ length ls = omega arith in
    counts_same _ _ n (λ p h. ap (digit (value (l ∷ ls) p)) here ∙ (value_parts l ls p _ refl).0 ∙ ap (λ m. get_or m p false) (sym at))
counts_digit (l ∷ ls) n even (suc k) i e v at =
    counts_same _ (λ p. digit (value ls (next (get_or l p false) l p)) i) n (λ p h. digit_low l ls p i (omega arith))
    ∙ all_moved (λ q. digit (value ls q) i) l n (even_first l ls n even)
    ∙ counts_digit ls n (even_rest l ls n even) k i (omega arith) v at

digit_of_list : (i : ℕ) (ls : List (List Bool)) (n p : ℕ) → p < n → get_or (digit_list i (values ls n)) p false ≡ digit (value ls p) i
digit_of_list i ls n p h =
    get_or-map (λ y. digit y i) (values ls n) p 0 false (omega (arith, length-values ls n)) ∙ ap (λ y. digit y i) (get_or-values ls n p 0 h)

ones_of_level : (ls : List (List Bool)) (n : ℕ) → AllHaveLength ls n → (k i : ℕ) → k + (i + 1) ≡ length ls → (v : List Bool) → v ≡ get_or ls k v → length v ≡ n
    → count true v n ≡ count true (digit_list i (values ls n)) n
unfolding count
ones_of_level ls n even k i e v at long =
    let w : List Bool = digit_list i (values ls n) in
    let whole : length w ≡ n = length-map (values ls n) (λ y. digit y i) ∙ length-values ls n in
    taken_counts (is_bit true) v false n (omega arith) ∙ sym (counts_digit ls n even k i e v at) ∙ counts_same _ _ n (λ p h. sym (digit_of_list i ls n p h))
    ∙ sym (taken_counts (is_bit true) w false n (omega arith))

-- a level takes what the list of its digits does
pub size_of_level : (ls : List (List Bool)) (n : ℕ) → AreLevels ls n → (k i : ℕ) → k + (i + 1) ≡ length ls → (v : List Bool) → v ≡ get_or ls k v
    → index_size v ≡ index_size (digit_list i (values ls n))
size_of_level ls n levels k i e v at =
    let w : List Bool = digit_list i (values ls n) in
    let long : length v ≡ n = ap length at ∙ levels.even k v (omega arith) in
    let whole : length w ≡ n = length-map (values ls n) (λ y. digit y i) ∙ length-values ls n in
    let same : length v ≡ length w = long ∙ sym whole in
    let ones : count true v (length v) ≡ count true w (length w) = rw (long, whole) (ones_of_level ls n levels.even k i e v at long) in
    let zeros : count false v (length v) ≡ count false w (length w) = omega (arith, count_both v (length v), count_both w (length w), ones, same) in
    rw (zeros, ones, same) refl

pub sum_more : (f : ℕ → ℕ) (i : ℕ) → sum_by f (range_with_len 0 (i + 1)) ≡ sum_by f (range_with_len 0 i) + f i
sum_more f i = simp map-id at (sum_by-map-range_with_len_more f (λ (x : ℕ). x) 0 i i (omega arith))

-- a clone of each level is the level
pub same_levels : (ls ms : List (List Bool)) → AllZip (λ x y. y ≡ x) ls ms → ms ≡ ls
same_levels = each_same
