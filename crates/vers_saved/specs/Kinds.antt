-- The content of a saved form of a kind.
use Rattle.std.specs.Prelude.{min, max, ◌≡◌, ℕ, ◌+◌, ◌-◌, ◌*◌, ◌%◌, ◌^◌, ◌<◌, ◌&&◌, ◌⊎◌, Bool, true, false, nat_le, List, length, slice_index}
use Rattle.vers_bits.specs.Bits.{limb_count}
use Rattle.vers_saved.specs.declared.kind.Kind.{Kind}
use Rattle.vers_saved.specs.declared.kind.Order.TheVariants.{Any}
use Rattle.vers_saved.specs.declared.TheConstants.{VERSION}
use Rattle.vers_saved.specs.declared.kind.TheConstants.{GREATEST_WORDS, PARENTHESES}
use Rattle.text_index.specs.Texts.{Text}
use Rattle.text_index.specs.Columns.{IsIndexable}
use Rattle.vers_trees.specs.declared.trees.bp.TheConstants.{MAX_BLOCK_SIZE}
use Rattle.vers_saved.specs.Faults.{takes_width, takes_count, rows_of, row_bits, words_for, packed_kind, has_first, first_count, in_order}
use Rattle.vers_saved.specs.Format.{saved}

-- the last of n bits ends a word, or its word has no one past it
abbrev pub EndsPadded : ℕ → List ℕ → Type 0
EndsPadded n words = (n % 64 ≡ 0) ⊎ (slice_index words (limb_count n - 1) < 2 ^ (n % 64))

-- the same of each row of n bits
abbrev pub ArePadded : (rows bits : ℕ) → List ℕ → Type 0
ArePadded rows bits words = (k : ℕ) → k < rows → (bits % 64 ≡ 0) ⊎ (slice_index words (k * limb_count bits + (limb_count bits - 1)) < 2 ^ (bits % 64))

-- each is a number of 64 bits
abbrev pub AreWords : List ℕ → Type 0
AreWords words = (k : ℕ) → slice_index words k < 2 ^ 64

-- whether the kind has lists of that many elements of that width
abbrev pub may_be_saved : Kind → (count width : ℕ) → Bool
may_be_saved kind count width = takes_width kind width && (takes_count kind count && nat_le (words_for kind count width) GREATEST_WORDS)

-- the kind has such lists, and the words are as many as the elements fill, have no one past the bits of a row, and are in the order of the kind
pub record IsWhole (kind : Kind) (count width : ℕ) (words : List ℕ) : Type 0 where
  pub may : may_be_saved kind count width ≡ true
  pub counted : length words ≡ words_for kind count width
  pub fit : AreWords words
  pub padded : ArePadded (rows_of kind width) (row_bits kind count width) words
  pub ordered : in_order kind.order words ≡ true

-- the kind of parentheses for a tree with blocks of `size` bits, if it may have such blocks
abbrev pub tree_kind : ℕ → Kind
tree_kind size = record {
  number = PARENTHESES;
  version = VERSION;
  least_width = max size 1;
  greatest_width = min size MAX_BLOCK_SIZE;
  item_bits = 1;
  by_levels = false;
  least_count = 0;
  greatest_count = 9223372036854775807;
  order = Any;
}

-- a text whose index has a saved form
abbrev pub HasTextForm : Text → Type 0
HasTextForm text = IsIndexable text × (text.step < 2 ^ 64)

-- `IsForm` by whether there is a first version
abbrev pub FormBy : (has_first : Bool) → Kind → (count width : ℕ) → (words packed bytes : List ℕ) → Type 0
FormBy false kind count width words packed bytes = bytes ≡ saved kind.version kind.number count width words
FormBy true kind count width words packed bytes =
    ((bytes ≡ saved kind.version kind.number count width words) × IsWhole kind count width words)
    ⊎ ((bytes ≡ saved VERSION kind.number (first_count kind count packed) width packed) × IsWhole (packed_kind kind) (first_count kind count packed) width packed)

-- the bytes are the saved form of a list of this kind, perhaps that of the first version, whose words are `packed`
abbrev pub IsForm : Kind → (count width : ℕ) → (words packed bytes : List ℕ) → Type 0
IsForm kind count width words packed bytes = FormBy (has_first kind) kind count width words packed bytes

-- `IsLoadedWhole` by whether there is a first version
abbrev pub WholeBy : (has_first : Bool) → Kind → (count width : ℕ) → (words packed : List ℕ) → Type 0
WholeBy false kind count width words packed = IsWhole kind count width words
WholeBy true kind count width words packed = IsWhole kind count width words ⊎ IsWhole (packed_kind kind) (first_count kind count packed) width packed

-- a list is whole as one of this kind, perhaps as one of the first version
abbrev pub IsLoadedWhole : Kind → (count width : ℕ) → (words packed : List ℕ) → Type 0
IsLoadedWhole kind count width words packed = WholeBy (has_first kind) kind count width words packed
