-- Why bytes are no saved form: the first test of some that fails.
use Rattle.std.specs.Prelude.{ℕ, zero, suc, ◌+◌, ◌*◌, ◌/◌, ◌%◌, ◌^◌, ◌==◌, ◌&&◌, ◌||◌, Bool, true, false, List, [], ◌∷◌, ◌++◌, length, take, drop, slice_index, nat_eq, nat_lt, nat_le, Option, None, Some, if◌then◌else◌}
use Rattle.vers_bits.specs.Bits.{limb_count}
use Rattle.std.specs.Cmp.Lexicographic.{pointwise}
use Rattle.std.specs.List.{list_all}
use Rattle.vers_sorted.specs.Sorted.{each_next, order_of}
use Rattle.vers_saved.specs.declared.TheConstants.{MAGIC, VERSION}
use Rattle.vers_saved.specs.declared.kind.Kind.{Kind}
use Rattle.vers_saved.specs.declared.kind.TheConstants.{GREATEST_WORDS}
use Rattle.vers_saved.specs.declared.kind.Order.{Order}
use Rattle.vers_saved.specs.declared.kind.Order.TheVariants.{Any, Ascending, Rising, HalfRising, Parts, RisingParts, InvertedParts}
use Rattle.vers_saved.specs.declared.fault.LoadError.{LoadError}
use Rattle.vers_saved.specs.declared.fault.LoadError.TheVariants.{TooShort, NotOurs, OtherVersion, OtherKind, BadLength, BadSum, BadPadding, NotAscending}
use Rattle.vers_saved.specs.Format.{words_of, saved_size, check_sum, decoded_elements, sorted_words}

-- the error of the first test that fails, or `None` if all pass
abbrev pub first_failing : List (Bool × LoadError) → Option LoadError
first_failing [] = None
first_failing (t ∷ tests) = if t.0 then first_failing tests else Some t.1

-- whether a list of that kind may have that width
abbrev pub takes_width : Kind → ℕ → Bool
takes_width kind width = nat_le kind.least_width width && nat_le width kind.greatest_width

-- whether a list of that kind may have that many elements
abbrev pub takes_count : Kind → ℕ → Bool
takes_count kind count = nat_le kind.least_count count && nat_le count kind.greatest_count

-- how many bits an element has: the number of the kind, or the width if the kind has none
abbrev pub item_bits : Kind → ℕ → ℕ
item_bits kind width = if kind.item_bits == 0 then width else kind.item_bits

-- how many rows of bits the content is, each from a whole word on: one, or one for each binary digit
abbrev pub rows_of : Kind → ℕ → ℕ
rows_of kind width = if kind.by_levels then width else 1

-- how many bits a row has
abbrev pub row_bits : Kind → (count width : ℕ) → ℕ
row_bits kind count width = if kind.by_levels then count else count * item_bits kind width

-- how many words rows of n bits fill
unfoldable pub row_words : (rows bits : ℕ) → ℕ
row_words rows bits = rows * limb_count bits

-- how many words the content has
abbrev pub words_for : Kind → (count width : ℕ) → ℕ
words_for kind count width = row_words (rows_of kind width) (row_bits kind count width)

-- the n words of the content, of all words of a saved form
abbrev pub words_among : ℕ → List ℕ → List ℕ
words_among n words = take n (drop 5 words)

-- whether the last word of row k has no one past the bits of the row
abbrev pub row_padded : (bits k : ℕ) → List ℕ → Bool
row_padded bits k words = (bits % 64 == 0) || nat_lt (slice_index words (k * limb_count bits + limb_count bits + 4)) (2 ^ (bits % 64))

-- whether that is so of each row
unfoldable pub is_padded : (rows bits : ℕ) → List ℕ → Bool
is_padded zero bits words = true
is_padded (suc k) bits words = is_padded k bits words && row_padded bits k words

-- whether the word after n words of content is the sum of the words before it
unfoldable pub is_summed : ℕ → List ℕ → Bool
is_summed n words = slice_index words (n + 5) == check_sum (take (n + 5) words)

-- whether a word is in an order with the next one
abbrev pub stands : Order → (ℕ → ℕ → Bool)
stands Any = λ before next. true
stands Ascending = nat_le
stands Rising = nat_lt
stands HalfRising = nat_lt
stands Parts = λ before next. true
stands RisingParts = λ before next. true
stands InvertedParts = λ before next. true

-- the words that have to be in an order: none, all of them, or the first half
abbrev pub ordered_words : Order → List ℕ → List ℕ
ordered_words Any words = []
ordered_words Ascending words = words
ordered_words Rising words = words
ordered_words HalfRising words = take (length words / 2) words
ordered_words Parts words = []
ordered_words RisingParts words = []
ordered_words InvertedParts words = []

-- whether each of the words is in an order with the next one
abbrev pub in_steps : Order → List ℕ → Bool
in_steps order words = each_next (stands order) (ordered_words order words)

-- whether the words represent a list, which ascends, strictly if `rising`
unfoldable pub are_of_list : (rising : Bool) → List ℕ → Bool
are_of_list rising words = each_next (order_of rising) (decoded_elements words) && pointwise nat_eq (sorted_words (decoded_elements words)) words

-- whether they are a length, and the words of a list that ascends strictly and is below the length
abbrev pub are_of_sparse : List ℕ → Bool
are_of_sparse words = are_of_list true (drop 1 words) && list_all (λ position. nat_lt position (slice_index words 0)) (decoded_elements (drop 1 words))

-- the number that all numbers of an inverted index are below: the product of the first two words
abbrev pub end_of_numbers : List ℕ → ℕ
end_of_numbers words = slice_index words 0 * slice_index words 1

-- whether they are two numbers whose product has 64 bits, and the words of a list that ascends strictly and is below the product
abbrev pub are_of_inverted : List ℕ → Bool
are_of_inverted words = nat_lt (end_of_numbers words) (2 ^ 64) && are_of_sparse (end_of_numbers words ∷ drop 2 words)

-- whether the words are in the order of a kind, or are those of an ascending list or of its parts
abbrev pub in_order : Order → List ℕ → Bool
in_order Parts words = are_of_list false words
in_order RisingParts words = are_of_sparse words
in_order InvertedParts words = are_of_inverted words
in_order order words = in_steps order words

-- how many words the content has, according to the head of these words
abbrev pub words_said : Kind → List ℕ → ℕ
words_said kind words = words_for kind (slice_index words 4) (slice_index words 3)

-- the tests of a head
abbrev pub head_tests : Kind → List ℕ → List (Bool × LoadError)
head_tests kind words =
    (slice_index words 0 == MAGIC, NotOurs)
    ∷ (slice_index words 2 == kind.number, OtherKind)
    ∷ (slice_index words 1 == kind.version, OtherVersion)
    ∷ (takes_width kind (slice_index words 3), OtherKind)
    ∷ (takes_count kind (slice_index words 4), BadLength)
    ∷ (nat_le (words_said kind words) GREATEST_WORDS, BadLength)
    ∷ []

-- the tests of what follows a head of r rows of n bits
abbrev pub body_tests : Order → (rows bits : ℕ) → List ℕ → List (Bool × LoadError)
body_tests order rows bits words =
    (is_summed (row_words rows bits) words, BadSum)
    ∷ (is_padded rows bits words, BadPadding)
    ∷ (in_order order (words_among (row_words rows bits) words), NotAscending)
    ∷ []

-- the tests of what follows the head of these words
abbrev pub said_tests : Kind → List ℕ → List (Bool × LoadError)
said_tests kind words = body_tests kind.order (rows_of kind (slice_index words 3)) (row_bits kind (slice_index words 4) (slice_index words 3)) words

-- the tests of a number of bytes with these words, in order, each with the error if it fails
abbrev pub tests_of : Kind → ℕ → List ℕ → List (Bool × LoadError)
tests_of kind size words =
    (nat_le 48 size, TooShort)
    ∷ head_tests kind words
    ++ (nat_le (saved_size (words_said kind words)) size, TooShort)
    ∷ (nat_le size (saved_size (words_said kind words)), BadLength)
    ∷ said_tests kind words

-- the error in bytes as the saved form of a list of that kind and its version, or `None` if they are one
unfoldable pub version_fault : Kind → List ℕ → Option LoadError
version_fault kind bytes = first_failing (tests_of kind (length bytes) (words_of bytes))

-- the version that bytes name: their second word
abbrev pub version_said : List ℕ → ℕ
version_said bytes = slice_index (words_of bytes) 1

-- whether a later version of the kind has another form than the first
abbrev pub has_first : Kind → Bool
has_first kind = nat_lt VERSION kind.version

-- the order of the words of the first version, which are the elements themselves if those of the later one are parts
abbrev pub first_order : Order → Order
first_order Parts = Ascending
first_order RisingParts = Rising
first_order order = order

-- how many items the first version counts: as many as the later one if its items are in levels, otherwise the words
abbrev pub first_count : Kind → (count : ℕ) → (packed : List ℕ) → ℕ
first_count kind count packed = if kind.by_levels then count else length packed

-- lists of this kind whose items are one after another, as in the first version
abbrev pub packed_kind : Kind → Kind
packed_kind kind = record {
  number = kind.number;
  version = VERSION;
  least_width = kind.least_width;
  greatest_width = kind.greatest_width;
  item_bits = kind.item_bits;
  by_levels = false;
  least_count = kind.least_count;
  greatest_count = kind.greatest_count;
  order = first_order kind.order;
}

-- the kind in a version
abbrev pub at_version : Kind → ℕ → Kind
at_version kind version = if has_first kind && (version == VERSION) then packed_kind kind else kind

-- the words in a version
abbrev pub words_in : Kind → ℕ → (words packed : List ℕ) → List ℕ
words_in kind version words packed = if has_first kind && (version == VERSION) then packed else words

-- how many items a version counts
abbrev pub count_in : Kind → ℕ → (count : ℕ) → (packed : List ℕ) → ℕ
count_in kind version count packed = if has_first kind && (version == VERSION) then first_count kind count packed else count

-- the error in bytes as the saved form of a list of that kind, in the version that they name, or `None` if they are one
abbrev pub fault_of : Kind → List ℕ → Option LoadError
fault_of kind bytes = version_fault (at_version kind (version_said bytes)) bytes
