-- The laws that proofs of other crates may cite. A crate above imports this file and no other of this folder.
use Rattle.vers_wavelet.proofs.Names.{◌≡◌, ℕ, ◌-◌, ◌^◌, ◌<◌, ◌≤◌, ◌+◌, Bool, eqb, List, [], length, get_or, Option, Some, None, slice_range, All, Any, IsSome, IfSome, ◌↔◌, count_by, IsNonDecreasing, Symbols, by_size, in_bits, occurrences, range_elements, kth_by_size, greatest_up_to, least_from, as_word, IsKth, IsPredecessor, IsSuccessor, low_symbols, symbol_levels}
use Rattle.vers_wavelet.proofs.Answered as Answered
use Rattle.vers_wavelet.proofs.BySize as BySize
use Rattle.vers_wavelet.proofs.Inverses as Inverses
use Rattle.vers_wavelet.proofs.Items as Items
use Rattle.vers_wavelet.proofs.Lists as Lists
use Rattle.vers_wavelet.proofs.Makes as Makes
use Rattle.vers_wavelet.proofs.Elements as Elements
use Rattle.vers_wavelet.proofs.Nearest as Nearest
use Rattle.vers_wavelet.proofs.Ranges as Ranges

-- ---- elements by size

-- in ascending order elements ascend, and each is there as often
pub by_size_ascends : (xs : List ℕ) → IsNonDecreasing (by_size xs)
by_size_ascends = BySize.by_size_ascends

pub count_by_size : (p : ℕ → Bool) (xs : List ℕ) → count_by p (by_size xs) ≡ count_by p xs
count_by_size = BySize.count_by_size

pub length-by_size : (xs : List ℕ) → length (by_size xs) ≡ length xs
length-by_size = BySize.length-by_size

-- element i by size is at position i in ascending order, and is one number
pub kth_at : (xs : List ℕ) (i x : ℕ) → i < length xs → IsKth xs i x → get_or (by_size xs) i 0 ≡ x
kth_at = BySize.kth_at

pub one_kth : (xs : List ℕ) (i x y : ℕ) → IsKth xs i x → IsKth xs i y → x ≡ y
one_kth = BySize.one_kth

-- it is the one that the definition gives
pub kth_is : (xs : List ℕ) (i x : ℕ) → (kth_by_size xs i ≡ Some x) ↔ IsKth xs i x
kth_is = BySize.kth_is

pub kth_item : (xs : List ℕ) (i : ℕ) → i < length xs → kth_by_size xs i ≡ Some (get_or (by_size xs) i 0)
kth_item = BySize.kth_item

-- quantiles in turn list the elements in ascending order
pub quantiles_ascend : (numbers quantiles : List ℕ) → length quantiles ≡ length numbers → ((i : ℕ) → i < length numbers → IsKth numbers i (get_or quantiles i 0)) → quantiles ≡ by_size numbers
quantiles_ascend = BySize.quantiles_ascend

-- ---- neighbours

-- the greatest element up to a number is the predecessor, and there where some element is not above the number
pub greatest_up_to_predecessor : (xs : List ℕ) (s x : ℕ) → (greatest_up_to xs s ≡ Some x) ↔ IsPredecessor xs s x
greatest_up_to_predecessor = Nearest.greatest_up_to_predecessor

pub greatest_up_to_some : (xs : List ℕ) (s : ℕ) → IsSome (greatest_up_to xs s) ↔ Any (λ y. y ≤ s) xs
greatest_up_to_some = Nearest.greatest_up_to_some

-- the least element from a number on is the successor, and there where some element is not below the number
pub least_from_successor : (xs : List ℕ) (s x : ℕ) → (least_from xs s ≡ Some x) ↔ IsSuccessor xs s x
least_from_successor = Nearest.least_from_successor

pub least_from_some : (xs : List ℕ) (s : ℕ) → IsSome (least_from xs s) ↔ Any (λ y. s ≤ y) xs
least_from_some = Nearest.least_from_some

-- ---- ranges and symbols

-- numbers of at most k digits are their own low digits
pub small_numbers_stay : (numbers : List ℕ) (k : ℕ) → 0 < k → All (λ y. y < 2 ^ k) numbers → low_symbols numbers k ≡ numbers
small_numbers_stay = Makes.small_numbers_stay

-- a symbol occurs in a range as often as it is among the range's elements
pub occurrences_are_counted : (numbers : List ℕ) (a b s : ℕ) → b ≤ length numbers → length (occurrences numbers a b s) ≡ count_by (λ y. eqb y s) (slice_range numbers a b)
occurrences_are_counted = Lists.occurrences_are_counted

-- the range of all positions is the list
pub whole_range : (xs : List ℕ) → slice_range xs 0 (length xs) ≡ xs
whole_range = Items.whole_range

-- a range that ends within the list has as many elements as positions
pub part_length : (xs : List ℕ) (a b : ℕ) → b ≤ length xs → length (slice_range xs a b) ≡ b - a
part_length = Elements.part_length

-- the elements of a range, by whether it ends within the list
pub elements_inside : (xs : List ℕ) (a b : ℕ) → b ≤ length xs → range_elements xs a b ≡ slice_range xs a b
elements_inside = Ranges.elements_inside

pub elements_past : (xs : List ℕ) (a b : ℕ) → length xs < b → range_elements xs a b ≡ []
elements_past = Ranges.elements_past

-- its element of a number, and its neighbours of a number
pub range_kth : (xs : List ℕ) (a b i : ℕ) → IfSome (kth_by_size (range_elements xs a b) i) (λ x. IsKth (slice_range xs a b) i x)
    × (IsSome (kth_by_size (range_elements xs a b) i) ↔ (b ≤ length xs) × (a + i < b))
range_kth = Answered.range_kth

pub range_predecessor : (xs : List ℕ) (a b s : ℕ) → IfSome (greatest_up_to (range_elements xs a b) s) (λ x. IsPredecessor (slice_range xs a b) s x)
    × (IsSome (greatest_up_to (range_elements xs a b) s) ↔ (a ≤ b) × (b ≤ length xs) × Any (λ y. y ≤ s) (slice_range xs a b))
range_predecessor = Answered.range_predecessor

pub range_successor : (xs : List ℕ) (a b s : ℕ) → IfSome (least_from (range_elements xs a b) s) (λ x. IsSuccessor (slice_range xs a b) s x)
    × (IsSome (least_from (range_elements xs a b) s) ↔ (a ≤ b) × (b ≤ length xs) × Any (λ y. s ≤ y) (slice_range xs a b))
range_successor = Answered.range_successor

-- symbols of at most 64 bits are numbers of the machine, and others none
pub narrow_word : (width : ℕ) (symbol : Option ℕ) → width ≤ 64 → as_word width symbol ≡ symbol
narrow_word = Ranges.narrow_word

pub wide_word : (width : ℕ) (symbol : Option ℕ) → 64 < width → as_word width symbol ≡ None
wide_word = Ranges.wide_word

-- there are as many lists of bits as numbers
pub length-in_bits : (k : ℕ) (xs : List ℕ) → length (in_bits k xs) ≡ length xs
length-in_bits = Items.length-in_bits

-- ---- levels

-- a list of symbols has a level for each digit, and each level has a bit for each symbol
pub levels_even : (symbols : Symbols) → (length (symbol_levels symbols) ≡ symbols.width) × All (λ l. length l ≡ length symbols.items) (symbol_levels symbols)
levels_even = Inverses.levels_even

-- as many symbols follow from their levels
pub levels_tell : (xs ys : Symbols) → All (λ y. y < 2 ^ xs.width) xs.items → All (λ y. y < 2 ^ ys.width) ys.items → length xs.items ≡ length ys.items → symbol_levels xs ≡ symbol_levels ys → xs ≡ ys
levels_tell = Inverses.levels_tell
