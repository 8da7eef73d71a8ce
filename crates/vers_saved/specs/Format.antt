-- The saved form of a list: words of 64 bits, each as its eight bytes with the lowest first.
-- First a head of five words, then the words of the list, then a sum of all words before it.
use Rattle.std.specs.Prelude.{ℕ, ◌+◌, ◌-◌, ◌*◌, ◌/◌, ◌%◌, ◌^◌, Bool, true, List, [], ◌∷◌, ◌++◌, length, map, fold, flat_map, bit_xor, take, drop, slice_index}
use Rattle.std.specs.Int.{w64, to_le_bytes, from_le_bytes, rotate_left}
use Rattle.std.specs.Simd.{first_chunks}
use Rattle.vers_bits.specs.Bits.{limb_count, limbs, pack, positions}
use Rattle.vers_sorted.specs.Layout.{first_of, last_of, low_count, high_count, low_parts, high_parts, elements, width}
use Rattle.vers_wavelet.specs.Makers.{symbol_levels}
use Rattle.vers_saved.specs.declared.kind.TheConstants.{BITS, SORTED, SYMBOLS, SPARSE, VALUES, PARENTHESES, POSTINGS, TEXTS, INVERTED}
use Rattle.postings.specs.Posted.{Posted}
use Rattle.inverted.specs.Lists.{Lists}
use Rattle.text_index.specs.Texts.{Text, row_of}
use Rattle.text_index.specs.Sizes.{column_of, kept_rows}
use Rattle.vers_wavelet.specs.Symbols.{Symbols}
use Rattle.wavelet_tree.specs.Trees.{bits_in_tree, starts_of}
use Rattle.vers_saved.specs.declared.TheConstants.{MAGIC, VERSION, LEVELS_VERSION, PARTS_VERSION, TREE_VERSION, START, FACTOR, TURN}

-- the eight bytes of a word, the lowest first
unfoldable pub word_bytes : ℕ → List ℕ
word_bytes word = to_le_bytes w64 word

-- the word of eight bytes, the lowest first
unfoldable pub bytes_word : List ℕ → ℕ
bytes_word bytes = from_le_bytes w64 bytes

-- the bytes of all words
abbrev pub bytes_of : List ℕ → List ℕ
bytes_of words = flat_map word_bytes words

-- the words of bytes, as many as they fill
unfoldable pub words_of : List ℕ → List ℕ
words_of bytes = map bytes_word (first_chunks 8 (length bytes / 8) bytes)

-- a sum with one more word mixed in: both combined by xor, times an odd factor, and turned
unfoldable pub mix : ℕ → ℕ → ℕ
mix sum word = rotate_left w64 (bit_xor sum word * FACTOR % 2 ^ 64) TURN

-- the sum of words: each mixed in, from the first on
unfoldable pub check_sum : List ℕ → ℕ
check_sum words = fold mix START words

-- the head: whose it is, of which version, what kind of list, the width of its items (or the size of a tree's blocks), and how many they are
abbrev pub head : (version kind count width : ℕ) → List ℕ
head version kind count width = MAGIC ∷ version ∷ kind ∷ width ∷ count ∷ []

-- words, and then their sum
unfoldable pub with_sum : List ℕ → List ℕ
with_sum words = words ++ check_sum words ∷ []

-- the saved form of a version of `count` elements of a width, whose content is these words
unfoldable pub saved : (version kind count width : ℕ) → List ℕ → List ℕ
saved version kind count width words = bytes_of (with_sum (head version kind count width ++ words))

-- how many bytes a saved form has, of which n words are the content
abbrev pub saved_size : ℕ → ℕ
saved_size n = 8 * (n + 6)

-- the saved form of a list of bits: its limbs
abbrev pub saved_bits : List Bool → List ℕ
saved_bits bits = saved VERSION BITS (length bits) 1 (limbs bits)

-- the words of an ascending list: its length, its first and its last element, the limbs of its low and of its high parts
abbrev pub sorted_words : List ℕ → List ℕ
sorted_words elements = length elements ∷ first_of elements ∷ last_of elements ∷ limbs (low_parts elements) ++ limbs (high_parts elements)

-- the saved form of an ascending list: its parts
abbrev pub saved_sorted : List ℕ → List ℕ
saved_sorted elements = saved PARTS_VERSION SORTED (length (sorted_words elements)) 64 (sorted_words elements)

-- the first version of that form: each element as a word
abbrev pub listed_form : List ℕ → List ℕ
listed_form elements = saved VERSION SORTED (length elements) 64 elements

-- the first n bits that words contain
abbrev pub bits_in : ℕ → List ℕ → List Bool
bits_in n words = take n (pack words 64)

-- how far the last element is above the first, decoded from the words of a list
abbrev pub decoded_span : List ℕ → ℕ
decoded_span words = slice_index words 2 - slice_index words 1

-- the low parts decoded from these words, and the high parts, which begin with a word
abbrev pub decoded_low : List ℕ → List Bool
decoded_low words = bits_in (low_count (slice_index words 0) (decoded_span words)) (drop 3 words)

abbrev pub decoded_high : List ℕ → List Bool
decoded_high words = bits_in (high_count (slice_index words 0) (decoded_span words)) (drop (3 + limb_count (low_count (slice_index words 0) (decoded_span words))) words)

-- the elements decoded from these words
unfoldable pub decoded_elements : List ℕ → List ℕ
decoded_elements words = elements (decoded_high words) (decoded_low words) (slice_index words 1) (width (slice_index words 0) (decoded_span words)) (slice_index words 0)

-- the words of symbols of a width: the limbs of each level
abbrev pub level_words : ℕ → List ℕ → List ℕ
level_words width items = flat_map limbs (symbol_levels (record { width = width; items = items }))

-- the saved form of symbols of a width: their levels
abbrev pub saved_symbols : ℕ → List ℕ → List ℕ
saved_symbols width items = saved LEVELS_VERSION SYMBOLS (length items) width (level_words width items)

-- the first version of that form: the limbs of their bits, one symbol after another
abbrev pub packed_form : ℕ → List ℕ → List ℕ
packed_form width items = saved VERSION SYMBOLS (length items) width (limbs (pack items width))

-- the words of a sparse list of bits: the length, and the words of the list of the ones' positions
abbrev pub sparse_words : List Bool → List ℕ
sparse_words bits = length bits ∷ sorted_words (positions true bits)

-- the saved form of a list of bits with few ones
abbrev pub saved_sparse : List Bool → List ℕ
saved_sparse bits = saved PARTS_VERSION SPARSE (length (sparse_words bits)) 64 (sparse_words bits)

-- the words of the first version: the positions of the ones, and the length
abbrev pub position_words : List Bool → List ℕ
position_words bits = positions true bits ++ length bits ∷ []

-- the first version of that form
abbrev pub positions_form : List Bool → List ℕ
positions_form bits = saved VERSION SPARSE (length (position_words bits)) 64 (position_words bits)

-- the saved form of numbers in any order: each as a word
abbrev pub saved_values : List ℕ → List ℕ
saved_values items = saved VERSION VALUES (length items) 64 items

-- the saved form of parentheses for a tree with blocks of `size` bits: their limbs
abbrev pub saved_parentheses : ℕ → List Bool → List ℕ
saved_parentheses size bits = saved VERSION PARENTHESES (length bits) size (limbs bits)

-- the words of documents with costs: the documents, and then the cost of each
abbrev pub posting_words : Posted → List ℕ
posting_words posted = posted.documents ++ posted.costs

-- the saved form of documents with costs
abbrev pub saved_postings : Posted → List ℕ
saved_postings posted = saved VERSION POSTINGS (length posted.documents) 128 (posting_words posted)

-- the column of a text (its BWT) as symbols
abbrev pub column_symbols : Text → Symbols
column_symbols text = record { width = text.width; items = column_of text.items }

-- the limbs of the bits of the wavelet tree of the column
abbrev pub tree_limbs : Text → List ℕ
tree_limbs text = limbs (bits_in_tree (column_symbols text))

-- the limbs of the rows of its sampled positions, 32 bits each
abbrev pub row_limbs : Text → List ℕ
row_limbs text = limbs (pack (kept_rows text.step text.items) 32)

-- the numbers of a text: its length, the step of the samples, the row of the whole text, how many bits the tree has, and for each symbol how many elements of the column are below it
abbrev pub text_numbers : Text → List ℕ
text_numbers text = length text.items ∷ text.step ∷ row_of text.items 0 ∷ length (bits_in_tree (column_symbols text)) ∷ starts_of (column_symbols text)

-- the words of the index of a text: its numbers, its tree, and its rows
abbrev pub text_words : Text → List ℕ
text_words text = text_numbers text ++ (tree_limbs text ++ row_limbs text)

-- the saved form of the index of a text
abbrev pub saved_text : Text → List ℕ
saved_text text = saved TREE_VERSION TEXTS (length (text_words text)) text.width (text_words text)

-- the limbs of the column, one symbol after another
abbrev pub column_limbs : Text → List ℕ
column_limbs text = limbs (pack (column_of text.items) text.width)

-- the words of the first version: the length, the step, the row of the whole text, the column, and the rows
abbrev pub column_words : Text → List ℕ
column_words text = length text.items ∷ text.step ∷ row_of text.items 0 ∷ (column_limbs text ++ row_limbs text)

-- the first version of that form
abbrev pub column_form : Text → List ℕ
column_form text = saved VERSION TEXTS (length (column_words text)) text.width (column_words text)

-- the words of an inverted index: the number of terms, the number that all documents are below, and the words of the list of all numbers
abbrev pub inverted_words : Lists → List ℕ
inverted_words index = length index.lists ∷ index.universe ∷ sorted_words index.numbers

-- the saved form of an inverted index
abbrev pub saved_inverted : Lists → List ℕ
saved_inverted index = saved VERSION INVERTED (length (inverted_words index)) 64 (inverted_words index)
