-- The laws of lists of symbols, as statements.
use Rattle.std.specs.Prelude.{◌≡◌, ℕ, ◌^◌, ◌<◌, ◌≤◌, ◌==◌, Bool, List, length, slice_index, slice_range, count_by, All, Any, Option, Some, None, IsSome, IfSome, ◌↔◌, ◌+◌}
use Rattle.std.specs.List.Sorted.{IsNonDecreasing}
use Rattle.vers_wavelet.specs.Symbols.{Symbols, by_size, occurrences, range_elements, kth_by_size, greatest_up_to, least_from, as_word, IsKth, IsPredecessor, IsSuccessor}
use Rattle.vers_wavelet.specs.Makers.{low_symbols, symbol_levels}

-- `by_size` ascends
abbrev pub SortedElementsAscend : Type 0
SortedElementsAscend = (numbers : List ℕ) → IsNonDecreasing (by_size numbers)

-- `by_size` has the same elements, each as often
abbrev pub SortingKeepsElements : Type 0
SortingKeepsElements = (test : ℕ → Bool) (numbers : List ℕ) → count_by test (by_size numbers) ≡ count_by test numbers

-- `kth_by_size` is the element that at most i elements are less than, and more than i are not greater than
abbrev pub KthBySizeIsKth : Type 0
KthBySizeIsKth = (numbers : List ℕ) (i x : ℕ) → (kth_by_size numbers i ≡ Some x) ↔ IsKth numbers i x

-- `kth_by_size` is element i of `by_size`
abbrev pub KthBySizeIsItem : Type 0
KthBySizeIsItem = (numbers : List ℕ) (i : ℕ) → i < length numbers → kth_by_size numbers i ≡ Some (slice_index (by_size numbers) i)

-- `greatest_up_to` is the predecessor
abbrev pub GreatestUpToIsPredecessor : Type 0
GreatestUpToIsPredecessor = (numbers : List ℕ) (s x : ℕ) → (greatest_up_to numbers s ≡ Some x) ↔ IsPredecessor numbers s x

-- the predecessor exists exactly if some element is at most the number
abbrev pub SomeElementsAreUpTo : Type 0
SomeElementsAreUpTo = (numbers : List ℕ) (s : ℕ) → IsSome (greatest_up_to numbers s) ↔ Any (λ y. y ≤ s) numbers

-- `least_from` is the successor
abbrev pub LeastFromIsSuccessor : Type 0
LeastFromIsSuccessor = (numbers : List ℕ) (s x : ℕ) → (least_from numbers s ≡ Some x) ↔ IsSuccessor numbers s x

-- the successor exists exactly if some element is at least the number
abbrev pub SomeElementsAreFrom : Type 0
SomeElementsAreFrom = (numbers : List ℕ) (s : ℕ) → IsSome (least_from numbers s) ↔ Any (λ y. s ≤ y) numbers

-- element i by size of a range satisfies `IsKth`, and exists exactly if the range is within the list and has more than i positions
abbrev pub RangesHaveElements : Type 0
RangesHaveElements = (numbers : List ℕ) (a b i : ℕ) → IfSome (kth_by_size (range_elements numbers a b) i) (λ x. IsKth (slice_range numbers a b) i x)
    × (IsSome (kth_by_size (range_elements numbers a b) i) ↔ (b ≤ length numbers) × (a + i < b))

-- the predecessor in a range satisfies `IsPredecessor`, and exists exactly if the range is within the list and has an element that is at most the number
abbrev pub RangesHavePredecessors : Type 0
RangesHavePredecessors = (numbers : List ℕ) (a b s : ℕ) → IfSome (greatest_up_to (range_elements numbers a b) s) (λ x. IsPredecessor (slice_range numbers a b) s x)
    × (IsSome (greatest_up_to (range_elements numbers a b) s) ↔ (a ≤ b) × (b ≤ length numbers) × Any (λ y. y ≤ s) (slice_range numbers a b))

-- the successor in a range satisfies `IsSuccessor`, and exists exactly if the range is within the list and has an element that is at least the number
abbrev pub RangesHaveSuccessors : Type 0
RangesHaveSuccessors = (numbers : List ℕ) (a b s : ℕ) → IfSome (least_from (range_elements numbers a b) s) (λ x. IsSuccessor (slice_range numbers a b) s x)
    × (IsSome (least_from (range_elements numbers a b) s) ↔ (a ≤ b) × (b ≤ length numbers) × Any (λ y. s ≤ y) (slice_range numbers a b))

-- the elements of a range within the list are those at its positions
abbrev pub RangesInsideStay : Type 0
RangesInsideStay = (numbers : List ℕ) (a b : ℕ) → b ≤ length numbers → range_elements numbers a b ≡ slice_range numbers a b

-- a symbol of at most 64 bits is a machine word
abbrev pub NarrowSymbolsAreWords : Type 0
NarrowSymbolsAreWords = (width : ℕ) (symbol : Option ℕ) → width ≤ 64 → as_word width symbol ≡ symbol

-- a symbol of more than 64 bits is not a machine word
abbrev pub WideSymbolsAreNoWords : Type 0
WideSymbolsAreNoWords = (width : ℕ) (symbol : Option ℕ) → 64 < width → as_word width symbol ≡ None

-- a list has exactly one element i by size
abbrev pub OneElementOfANumber : Type 0
OneElementOfANumber = (numbers : List ℕ) (i x y : ℕ) → IsKth numbers i x → IsKth numbers i y → x ≡ y

-- the quantiles from 0 to the length list the elements in ascending order, duplicates included
abbrev pub QuantilesListElementsBySize : Type 0
QuantilesListElementsBySize = (numbers quantiles : List ℕ) → length quantiles ≡ length numbers
    → ((i : ℕ) → i < length numbers → IsKth numbers i (slice_index quantiles i)) → quantiles ≡ by_size numbers

-- numbers of at most k digits are their own k low digits
abbrev pub SmallNumbersStay : Type 0
SmallNumbersStay = (numbers : List ℕ) (k : ℕ) → 0 < k → All (λ y. y < 2 ^ k) numbers → low_symbols numbers k ≡ numbers

-- a list of symbols has a level for each binary digit, and each level has a bit for each symbol
abbrev pub LevelsAreEven : Type 0
LevelsAreEven = (symbols : Symbols) → (length (symbol_levels symbols) ≡ symbols.width) × All (λ l. length l ≡ length symbols.items) (symbol_levels symbols)

-- any lists of n bits are the levels of a list of n symbols
abbrev pub EveryLevelsAreSome : Type 0
EveryLevelsAreSome = (ls : List (List Bool)) (n : ℕ) → All (λ l. length l ≡ n) ls
    → (symbols : Symbols) × (length symbols.items ≡ n) × All (λ y. y < 2 ^ symbols.width) symbols.items × (symbol_levels symbols ≡ ls)

-- two lists of as many symbols are equal if they have the same levels
abbrev pub LevelsDetermineSymbols : Type 0
LevelsDetermineSymbols = (xs ys : Symbols) → All (λ y. y < 2 ^ xs.width) xs.items → All (λ y. y < 2 ^ ys.width) ys.items
    → length xs.items ≡ length ys.items → symbol_levels xs ≡ symbol_levels ys → xs ≡ ys

-- a symbol has as many `occurrences` in a range as the range has equal elements
abbrev pub OccurrencesAreCounted : Type 0
OccurrencesAreCounted = (numbers : List ℕ) (a b s : ℕ) → b ≤ length numbers
    → length (occurrences numbers a b s) ≡ count_by (λ y. y == s) (slice_range numbers a b)
