-- The items of the iterators over symbols.
use Rattle.vers_wavelet.proofs.Names.{◌≡◌, ℕ, ◌-◌, ◌<◌, Bool, true, false, List, [], length, refl, sym, ap, ◌∙◌, arith, slice_get, Some, slice_range, slice_index, length-map, get_or-map, same_lists, take_all, slice_get-get_or, unwrap_or-slice_get, number, low_bits, length-low_bits, number-low_bits, any_default, digit, by_size, ordered, in_bits}
use Rattle.vers_wavelet.proofs.Digits.{list_digit, whole_symbol}
use Rattle.vers_wavelet.proofs.BySize.{length-by_size}

-- the range of all positions
pub whole_range : (xs : List ℕ) → slice_range xs 0 (length xs) ≡ xs
whole_range xs = take_all (length xs - 0) xs (omega arith)

-- ---- items that are numbers
pub number_item : (xs : List ℕ) (i x : ℕ) → i < length xs → x ≡ slice_index xs i → slice_get xs i ≡ Some x
number_item xs i x h is = slice_get-get_or xs i 0 h ∙ ap Some (sym is)

pub length-ordered : (ascending : Bool) (xs : List ℕ) → length (ordered ascending xs) ≡ length xs
length-ordered true xs = length-by_size xs
length-ordered false xs = refl

-- element i of all symbols by size
pub sorted_element : (xs : List ℕ) (i x n : ℕ) → n ≡ length xs → x ≡ slice_index (by_size (slice_range xs 0 n)) i → x ≡ slice_index (by_size xs) i
sorted_element xs i x n e is = is ∙ ap (λ l. slice_index (by_size l) i) (ap (slice_range xs 0) e ∙ whole_range xs)

-- ---- items that are lists of bits

-- a list of bits from its number
bits_of_number : (l : List Bool) (k : ℕ) → length l ≡ k → low_bits (number l) k ≡ l
bits_of_number l k e =
    let m : List Bool = low_bits (number l) k in
    let same : number m ≡ number l = number-low_bits (number l) k ∙ whole_symbol l k e in
    let long : length m ≡ length l = length-low_bits (number l) k ∙ sym e in
    same_lists m l long (λ i d h.
    let low : i < length l = omega (arith, h, long) in
    any_default m i d false h ∙ list_digit m i ∙ ap (λ n. digit n i) same ∙ sym (list_digit l i) ∙ any_default l i false d low)

pub length-in_bits : (k : ℕ) (xs : List ℕ) → length (in_bits k xs) ≡ length xs
length-in_bits k xs = length-map xs (λ y. low_bits y k)

pub list_item : (xs : List ℕ) (k i : ℕ) (l : List Bool) → i < length (in_bits k xs) → length l ≡ k → number l ≡ slice_index xs i → slice_get (in_bits k xs) i ≡ Some l
list_item xs k i l h long is =
    let low : i < length xs = omega (arith, h, length-in_bits k xs) in
    slice_get-get_or (in_bits k xs) i [] h ∙ ap Some (get_or-map (λ y. low_bits y k) xs i 0 [] low ∙ ap (λ y. low_bits y k) (sym is) ∙ bits_of_number l k long)

pub ruleset numbers = (length-by_size, number_item)

pub ruleset lists = (length-in_bits, length-ordered, list_item)

pub ruleset found = (unwrap_or-slice_get)
