-- Proofs that lists with the same words are the same list.
use Rattle.std.proofs.Common.{◌≡◌, ℕ, suc, ◌-◌, ◌^◌, ◌<◌, ◌*◌, Bool, false, true, List, [], ◌∷◌, ◌++◌, length, get_or, take, drop, refl, sym, ap, subst, ◌∙◌, inl, inr, arith}
use Rattle.std.proofs.Math.Nat.{mod-eq_of_lt}
use Rattle.std.proofs.lemmas.Bool.{cases_lt, false≢true}
use Rattle.std.proofs.lemmas.Nat.{pow_pos}
use Rattle.std.proofs.lemmas.List.Elements.{All-get_or}
use Rattle.std.proofs.lemmas.List.{same_from_push, take_at, drop_at, get_or_past}
use Rattle.std.specs.Prelude.{⊤, map, flat_map, All}
use Rattle.vers_bits.specs.Bits.{count, is_bit, number, low_bits, pack, limb_count, limbs, positions, select}
use Rattle.vers_bits.proofs.PublicLaws.{any_default, equal_limbs, select_up, length-limbs, length-positions, length-packed, length-low_bits, number-low_bits}
use Rattle.vers_sorted.specs.Ones.{ones_at}
use Rattle.std.specs.List.Sorted.{IsNonDecreasing}
use Rattle.vers_sorted.specs.Layout.{first_of, last_of, low_count, high_count, low_parts, high_parts}
use Rattle.vers_sorted.proofs.PublicLaws.{counted_parts, ones_at-positions, parts_tell}
use Rattle.vers_wavelet.specs.Symbols.{Symbols}
use Rattle.postings.specs.Posted.{Posted, ArePaired}
use Rattle.vers_wavelet.specs.Makers.{symbol_levels}
use Rattle.vers_wavelet.proofs.PublicLaws.{levels_even}
use Rattle.vers_wavelet.proofs.PublicLaws as Wavelet
use Rattle.vers_saved.specs.Format.{level_words, position_words, posting_words, sorted_words, sparse_words}

-- a kind with no later version
pub no_first : {P : Type 0} → false ≡ true → P
no_first later = absurd (false≢true later)

-- lists of bits with the same limbs
pub bits_tell : (w : ℕ) (x y : List Bool) → ⊤ → ⊤ → length x ≡ length y → w ≡ w → limbs x ≡ limbs y → x ≡ y
bits_tell w x y t u long one same = equal_limbs x y long same

-- lists of numbers, which are their own words
pub numbers_tell : (w : ℕ) (x y : List ℕ) → ⊤ → ⊤ → length x ≡ length y → w ≡ w → x ≡ y → x ≡ y
numbers_tell w x y t u long one same = same

-- ascending lists with the same elements as words
pub listed_tell : true ≡ true → (x y : List ℕ) → IsNonDecreasing x → IsNonDecreasing y → length x ≡ length y → ◌≡◌ {A = ℕ} 64 64 → x ≡ y → x ≡ y
listed_tell later x y up_x up_y long one same = same

-- the parts of a list, and how many bits they have
pub own_counts : (m : List ℕ) → (length (low_parts m) ≡ low_count (length m) (last_of m - first_of m)) × (length (high_parts m) ≡ high_count (length m) (last_of m - first_of m))
own_counts m =
    counted_parts m (length m) (first_of m) (last_of m) (low_parts m) (high_parts m) (record { len_is = refl; first_is = refl; last_is = refl; low_is = refl; high_is = refl })

-- ascending lists with the same ends and the same limbs of their parts
pub sorted_tell : (x y : List ℕ) → IsNonDecreasing x → IsNonDecreasing y → length (sorted_words x) ≡ length (sorted_words y) → ◌≡◌ {A = ℕ} 64 64 → sorted_words x ≡ sorted_words y → x ≡ y
sorted_tell x y up_x up_y long one same =
    let many : length x ≡ length y = ap (λ l. get_or l 0 0) same in
    let first : first_of x ≡ first_of y = ap (λ l. get_or l 1 0) same in
    let last : last_of x ≡ last_of y = ap (λ l. get_or l 2 0) same in
    let rest : limbs (low_parts x) ++ limbs (high_parts x) ≡ limbs (low_parts y) ++ limbs (high_parts y) = ap (drop 3) same in
    let span : last_of x - first_of x ≡ last_of y - first_of y = ap (λ k. k - first_of x) last ∙ ap (λ k. last_of y - k) first in
    let low_long : length (low_parts x) ≡ length (low_parts y) = (own_counts x).0 ∙ ap (λ n. low_count n (last_of x - first_of x)) many ∙ ap (low_count (length y)) span ∙ sym (own_counts y).0 in
    let high_long : length (high_parts x) ≡ length (high_parts y) = (own_counts x).1 ∙ ap (λ n. high_count n (last_of x - first_of x)) many ∙ ap (high_count (length y)) span ∙ sym (own_counts y).1 in
    let limbs_long : length (limbs (low_parts x)) ≡ length (limbs (low_parts y)) = length-limbs (low_parts x) ∙ ap limb_count low_long ∙ sym (length-limbs (low_parts y)) in
    let n : ℕ = length (limbs (low_parts y)) in
    let low : low_parts x ≡ low_parts y =
    equal_limbs (low_parts x) (low_parts y) low_long
    (sym (take_at (limbs (low_parts x)) (limbs (high_parts x)) n limbs_long) ∙ ap (take n) rest ∙ take_at (limbs (low_parts y)) (limbs (high_parts y)) n refl) in
    let high : high_parts x ≡ high_parts y =
    equal_limbs (high_parts x) (high_parts y) high_long
    (sym (drop_at (limbs (low_parts x)) (limbs (high_parts x)) n limbs_long) ∙ ap (drop n) rest ∙ drop_at (limbs (low_parts y)) (limbs (high_parts y)) n refl) in
    parts_tell x y (length y) (first_of y) (last_of y) (low_parts y) (high_parts y) up_x up_y
    (record { len_is = sym many; first_is = sym first; last_is = sym last; low_is = sym low; high_is = sym high })
    (record { len_is = refl; first_is = refl; last_is = refl; low_is = refl; high_is = refl })

-- a list is its bits, each as it is
same_bits : (x : List Bool) → map (is_bit true) x ≡ x
same_bits [] = refl
same_bits (b ∷ x) = ap (λ l. b ∷ l) (same_bits x)

-- lists of bits with the same length and positions of the ones
positions_are : (x y : List Bool) → positions true x ≡ positions true y → length x ≡ length y → x ≡ y
positions_are x y ones long =
    sym (ones_at-positions true x ∙ same_bits x) ∙ ap (λ l. ones_at l (length x)) ones ∙ ap (ones_at (positions true y)) long ∙ ones_at-positions true y ∙ same_bits y

-- the positions of the ones ascend
pub positions_up : (x : List Bool) → IsNonDecreasing (positions true x)
unfolding select
positions_up x i j d from h = elim (cases_lt i j) [
  | inl less ↦
      let few : j < count true x (length x) = omega (arith, length-positions true x) in
      omega (arith, select_up true x i j less few, any_default (positions true x) i (length x) d (omega arith), any_default (positions true x) j (length x) d h)
  | inr past ↦ let same : i ≡ j = omega arith in rw same (omega arith)
]

-- lists of bits with few ones, by the length and the words of the positions
pub sparse_tell : (x y : List Bool) → ⊤ → ⊤ → length (sparse_words x) ≡ length (sparse_words y) → ◌≡◌ {A = ℕ} 64 64 → sparse_words x ≡ sparse_words y → x ≡ y
sparse_tell x y t u long one same =
    let rest : sorted_words (positions true x) ≡ sorted_words (positions true y) = ap (drop 1) same in
    positions_are x y (sorted_tell (positions true x) (positions true y) (positions_up x) (positions_up y) (ap length rest) one rest) (ap (λ l. get_or l 0 0) same)

-- and by the positions and then the length
pub positions_tell : true ≡ true → (x y : List Bool) → ⊤ → ⊤ → length (position_words x) ≡ length (position_words y) → ◌≡◌ {A = ℕ} 64 64 → position_words x ≡ position_words y → x ≡ y
positions_tell later x y t u long one same = let p = same_from_push (positions true x) (positions true y) (length x) (length y) same in positions_are x y p.0 p.1

-- lists of n bits each with the same limbs, one list after another
rows_tell : (n : ℕ) (ls ms : List (List Bool)) → All (λ l. length l ≡ n) ls → All (λ l. length l ≡ n) ms → length ls ≡ length ms → flat_map limbs ls ≡ flat_map limbs ms → ls ≡ ms
rows_tell n [] [] even_ls even_ms long same = refl
rows_tell n [] (m ∷ ms) even_ls even_ms long same = absurd (omega arith)
rows_tell n (l ∷ ls) [] even_ls even_ms long same = absurd (omega arith)
rows_tell n (l ∷ ls) (m ∷ ms) even_ls even_ms long same =
    let size : length l ≡ length m = even_ls 0 [] (omega arith) ∙ sym (even_ms 0 [] (omega arith)) in
    let many : length (limbs l) ≡ length (limbs m) = length-limbs l ∙ ap limb_count size ∙ sym (length-limbs m) in
    let first : limbs l ≡ limbs m =
    sym (take_at (limbs l) (flat_map limbs ls) (length (limbs m)) many) ∙ ap (take (length (limbs m))) same ∙ take_at (limbs m) (flat_map limbs ms) (length (limbs m)) refl in
    let rest : flat_map limbs ls ≡ flat_map limbs ms =
    sym (drop_at (limbs l) (flat_map limbs ls) (length (limbs m)) many) ∙ ap (drop (length (limbs m))) same ∙ drop_at (limbs m) (flat_map limbs ms) (length (limbs m)) refl in
    ap (λ x. x ∷ ls) (equal_limbs l m size first) ∙ ap (λ x. m ∷ x) (rows_tell n ls ms (λ i d h. even_ls (suc i) d (omega arith)) (λ i d h. even_ms (suc i) d (omega arith)) (omega arith) rest)

-- symbols of one width, as many, by the limbs of their levels
pub levels_tell : (x y : Symbols) → All (λ v. v < 2 ^ x.width) x.items → All (λ v. v < 2 ^ y.width) y.items → length x.items ≡ length y.items → x.width ≡ y.width
    → level_words x.width x.items ≡ level_words y.width y.items → x ≡ y
levels_tell x y fit_x fit_y long wide same =
    let ex = levels_even x in
    let ey = levels_even y in
    Wavelet.levels_tell x y fit_x fit_y long
    (rows_tell (length y.items) (symbol_levels x) (symbol_levels y) (λ i d h. ex.1 i d h ∙ long) ey.1 (ex.0 ∙ wide ∙ sym ey.0) same)

-- documents with costs, as many, by the documents and then the costs
pub postings_tell : (x y : Posted) → ArePaired x → ArePaired y → length x.documents ≡ length y.documents → ◌≡◌ {A = ℕ} 128 128 → posting_words x ≡ posting_words y → x ≡ y
postings_tell x y paired_x paired_y long one same =
    let documents : x.documents ≡ y.documents =
    sym (take_at x.documents x.costs (length y.documents) long) ∙ ap (take (length y.documents)) same ∙ take_at y.documents y.costs (length y.documents) refl in
    let costs : x.costs ≡ y.costs =
    sym (drop_at x.documents x.costs (length y.documents) long) ∙ ap (drop (length y.documents)) same ∙ drop_at y.documents y.costs (length y.documents) refl in
    ap (λ l. record { documents = l; costs = x.costs }) documents ∙ ap (λ l. record { documents = y.documents; costs = l }) costs

-- packed symbols determine the list
abbrev AreSymbols : ℕ → List ℕ → Type 0
AreSymbols k xs = (i : ℕ) → get_or xs i 0 < 2 ^ k

are_symbols : (k : ℕ) (xs : List ℕ) → All (λ y. y < 2 ^ k) xs → AreSymbols k xs
are_symbols k xs all i = elim (cases_lt i (length xs)) [
  | inl inside ↦ All-get_or (λ y. y < 2 ^ k) xs i 0 inside all
  | inr past ↦ subst (λ y. y < 2 ^ k) (sym (get_or_past xs i 0 past)) (pow_pos k)
]

same_symbol : (k x y : ℕ) → x < 2 ^ k → y < 2 ^ k → low_bits x k ≡ low_bits y k → x ≡ y
same_symbol k x y hx hy e = sym (number-low_bits x k ∙ mod-eq_of_lt hx) ∙ ap number e ∙ number-low_bits y k ∙ mod-eq_of_lt hy

pack_tells : (k : ℕ) (xs ys : List ℕ) → AreSymbols k xs → AreSymbols k ys → length xs ≡ length ys → pack xs k ≡ pack ys k → xs ≡ ys
pack_tells k [] [] hx hy e p = refl
pack_tells k [] (y ∷ ys) hx hy e p = absurd (omega arith)
pack_tells k (x ∷ xs) [] hx hy e p = absurd (omega arith)
pack_tells k (x ∷ xs) (y ∷ ys) hx hy e p =
    let first : low_bits x k ≡ low_bits y k =
    sym (take_at (low_bits x k) (pack xs k) k (length-low_bits x k)) ∙ ap (take k) p ∙ take_at (low_bits y k) (pack ys k) k (length-low_bits y k) in
    let rest : pack xs k ≡ pack ys k =
    sym (drop_at (low_bits x k) (pack xs k) k (length-low_bits x k)) ∙ ap (drop k) p ∙ drop_at (low_bits y k) (pack ys k) k (length-low_bits y k) in
    ap (λ z. z ∷ xs) (same_symbol k x y (hx 0) (hy 0) first) ∙ ap (λ l. y ∷ l) (pack_tells k xs ys (λ i. hx (suc i)) (λ i. hy (suc i)) (omega arith) rest)

-- symbols of one width, as many and with the same bits
pub same_symbols : (j k : ℕ) (xs ys : List ℕ) → All (λ y. y < 2 ^ j) xs → All (λ y. y < 2 ^ k) ys → length xs ≡ length ys → j ≡ k → limbs (pack xs j) ≡ limbs (pack ys k) → xs ≡ ys
same_symbols j k xs ys hx hy long wide same =
    let alike : limbs (pack xs k) ≡ limbs (pack ys k) = ap (λ w. limbs (pack xs w)) (sym wide) ∙ same in
    let many : length (pack xs k) ≡ length (pack ys k) = length-packed (λ v. v) k xs ∙ ap (λ n. n * k) long ∙ sym (length-packed (λ v. v) k ys) in
    pack_tells k xs ys (are_symbols k xs (subst (λ w. All (λ y. y < 2 ^ w) xs) wide hx)) (are_symbols k ys hy) long (equal_limbs (pack xs k) (pack ys k) many alike)

pub symbols_tell : (x y : Symbols) → All (λ v. v < 2 ^ x.width) x.items → All (λ v. v < 2 ^ y.width) y.items → length x.items ≡ length y.items → x.width ≡ y.width
    → limbs (pack x.items x.width) ≡ limbs (pack y.items y.width) → x ≡ y
symbols_tell x y hx hy long wide same =
    let items : x.items ≡ y.items = same_symbols x.width y.width x.items y.items hx hy long wide same in
    ap (λ w. record { width = w; items = x.items }) wide ∙ ap (λ l. record { width = y.width; items = l }) items

-- they have a later version, and those with the same words of the first are equal
pub symbols_first : true ≡ true → (x y : Symbols) → All (λ v. v < 2 ^ x.width) x.items → All (λ v. v < 2 ^ y.width) y.items → length x.items ≡ length y.items → x.width ≡ y.width
    → limbs (pack x.items x.width) ≡ limbs (pack y.items y.width) → x ≡ y
symbols_first later = symbols_tell
