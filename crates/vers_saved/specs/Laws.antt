-- The laws of sums of words and of saved forms.
use Rattle.std.specs.Prelude.{◌≡◌, ℕ, ◌*◌, ◌^◌, ◌<◌, ◌≤◌, ◌++◌, ◌∷◌, true, All, List, length, None}
use Rattle.std.specs.List.Sorted.{IsNonDecreasing}
use Rattle.vers_bits.specs.Bits.{count, limb_count}
use Rattle.vers_bits.specs.declared.bit_vec.TheConstants.{MAX_LEN}
use Rattle.vers_trees.specs.declared.trees.bp.TheConstants.{MAX_BLOCK_SIZE}
use Rattle.postings.specs.Posted.{ArePaired}
use Rattle.inverted.specs.Numbers.{IsOfNumbers}
use Rattle.vers_saved.specs.declared.kind.Kind.{Kind}
use Rattle.vers_saved.specs.declared.kind.TheConstants.{GREATEST_WORDS, BIT_LISTS, SORTED_LISTS, SYMBOL_LISTS, PACKED_SYMBOLS, SPARSE_LISTS, TABLE_VALUES, BLOCK_VALUES, POSTING_LISTS, INVERTED_LISTS}
use Rattle.vers_saved.specs.Format.{check_sum, saved_bits, saved_sorted, sorted_words, listed_form, saved_symbols, packed_form, saved_sparse, sparse_words, positions_form, saved_values, saved_parentheses, saved_postings, inverted_words, saved_inverted}
use Rattle.vers_saved.specs.Faults.{fault_of, packed_kind}
use Rattle.vers_saved.specs.Kinds.{AreWords, tree_kind}

-- lists of words that differ in exactly one word have different sums
abbrev pub SumDetectsOneWord : Type 0
SumDetectsOneWord = (us vs : List ℕ) (x y : ℕ) → x < 2 ^ 64 → y < 2 ^ 64 → AreWords vs
    → check_sum (us ++ x ∷ vs) ≡ check_sum (us ++ y ∷ vs) → x ≡ y

-- the saved form of each list that may have one has no fault, and is that of no other list
abbrev pub GoesRound : {T : Type 0} → Kind → (T → Type 0) → (T → List ℕ) → Type 0
GoesRound {T} kind MayBeSaved form = (x : T) → MayBeSaved x → (fault_of kind (form x) ≡ None) × ((y : T) → MayBeSaved y → form x ≡ form y → x ≡ y)

-- a saved list of bits loads as the same list
abbrev pub BitsGoRound : Type 0
BitsGoRound = GoesRound BIT_LISTS (λ bits. length bits ≤ BIT_LISTS.greatest_count) saved_bits

-- a saved ascending list of 64-bit numbers loads as the same list
abbrev pub SortedGoRound : Type 0
SortedGoRound = GoesRound SORTED_LISTS (λ elements. (length (sorted_words elements) ≤ GREATEST_WORDS) × AreWords elements × IsNonDecreasing elements) saved_sorted

-- an ascending list of 64-bit numbers that was saved in the first version loads as the same list
abbrev pub ListedSortedGoRound : Type 0
ListedSortedGoRound = GoesRound (packed_kind SORTED_LISTS) (λ elements. (length elements ≤ GREATEST_WORDS) × AreWords elements × IsNonDecreasing elements) listed_form

-- a saved list of symbols of 1 to 64 bits loads as the same list
abbrev pub SymbolsGoRound : Type 0
SymbolsGoRound =
    (width : ℕ) → 1 ≤ width → width ≤ 64
    → GoesRound SYMBOL_LISTS (λ items. (width * limb_count (length items) ≤ GREATEST_WORDS) × All (λ y. y < 2 ^ width) items) (saved_symbols width)

-- a list of symbols of 1 to 64 bits that was saved in the first version loads as the same list
abbrev pub PackedSymbolsGoRound : Type 0
PackedSymbolsGoRound =
    (width : ℕ) → 1 ≤ width → width ≤ 64
    → GoesRound PACKED_SYMBOLS (λ items. (length items * width ≤ MAX_LEN) × All (λ y. y < 2 ^ width) items) (packed_form width)

-- a saved sparse list of bits loads as the same list
abbrev pub SparseGoRound : Type 0
SparseGoRound = GoesRound SPARSE_LISTS (λ bits. (length bits < 2 ^ 64) × (length (sparse_words bits) ≤ GREATEST_WORDS)) saved_sparse

-- a sparse list of bits that was saved in the first version loads as the same list
abbrev pub ListedSparseGoRound : Type 0
ListedSparseGoRound = GoesRound (packed_kind SPARSE_LISTS) (λ bits. (length bits < 2 ^ 64) × (count true bits (length bits) < GREATEST_WORDS)) positions_form

-- saved 64-bit numbers, up to the length limit of a sparse table, load as the same list
abbrev pub TableValuesGoRound : Type 0
TableValuesGoRound = GoesRound TABLE_VALUES (λ items. (length items ≤ TABLE_VALUES.greatest_count) × AreWords items) saved_values

-- saved 64-bit numbers, up to the length limit of blocks, load as the same list
abbrev pub BlockValuesGoRound : Type 0
BlockValuesGoRound = GoesRound BLOCK_VALUES (λ items. (length items ≤ BLOCK_VALUES.greatest_count) × AreWords items) saved_values

-- the saved parentheses of a tree load as the same list, for each block size
abbrev pub ParenthesesGoRound : Type 0
ParenthesesGoRound =
    (size : ℕ) → 1 ≤ size → size ≤ MAX_BLOCK_SIZE
    → GoesRound (tree_kind size) (λ bits. length bits ≤ (tree_kind size).greatest_count) (saved_parentheses size)

-- saved documents with 64-bit costs load as the same documents and costs
abbrev pub PostingsGoRound : Type 0
PostingsGoRound = GoesRound POSTING_LISTS (λ posted. (length posted.documents ≤ POSTING_LISTS.greatest_count) × ArePaired posted × AreWords posted.costs) saved_postings

-- a saved inverted index loads as the same index
abbrev pub InvertedGoRound : Type 0
InvertedGoRound = GoesRound INVERTED_LISTS (λ index. IsOfNumbers index × (length (inverted_words index) ≤ GREATEST_WORDS)) saved_inverted
