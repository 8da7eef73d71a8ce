-- Worked rows of the definitions, which compute.
use Rattle.std.specs.Prelude.{◌≡◌, ℕ, List, [], ◌∷◌, ◌++◌, true, false, None, Some, refl}
use Rattle.vers_bits.specs.Bits.{limbs, limb, low_bits, positions, select}
use Rattle.vers_tally.specs.Reads.{digits}
use Rattle.vers_sorted.specs.Ones.{ones_at}
use Rattle.vers_sorted.specs.Sorted.{is_element}
use Rattle.vers_sorted.specs.Layout.{high_length, high_of, high_parts, low_parts, low_width, elements, width}
use Rattle.vers_saved.specs.declared.kind.Order.TheVariants.{Ascending, Rising, HalfRising, InvertedParts}
use Rattle.vers_saved.specs.declared.kind.TheConstants.{BIT_LISTS, SORTED_LISTS}
use Rattle.vers_saved.specs.declared.fault.LoadError.TheVariants.{TooShort, OtherKind, BadLength}
use Rattle.vers_saved.specs.Format.{word_bytes, bytes_word, words_of, mix, check_sum, head, with_sum, saved, saved_bits, decoded_elements, inverted_words, position_words, posting_words, sorted_words, sparse_words}
use Rattle.vers_saved.specs.Faults.{are_of_list, in_order, is_padded, is_summed, row_words, fault_of, version_fault}

pub word_bytes-258 : word_bytes 258 ≡ 2 ∷ 1 ∷ 0 ∷ 0 ∷ 0 ∷ 0 ∷ 0 ∷ 0 ∷ []
unfolding word_bytes
word_bytes-258 = refl

pub bytes_word-258 : bytes_word (2 ∷ 1 ∷ 0 ∷ 0 ∷ 0 ∷ 0 ∷ 0 ∷ 0 ∷ []) ≡ 258
unfolding bytes_word
bytes_word-258 = refl

-- the sum of the head and the word of the bits 0110
pub check_sum-0110 : check_sum (head 1 1 4 1 ++ 6 ∷ []) ≡ 17659836652705875429
unfolding check_sum mix
check_sum-0110 = refl

-- the bits 0110, in 56 bytes
abbrev four_bits : List ℕ
four_bits =
    119 ∷ 111 ∷ 108 ∷ 116 ∷ 115 ∷ 106 ∷ 101 ∷ 109 ∷ 1 ∷ 0 ∷ 0 ∷ 0 ∷ 0 ∷ 0 ∷ 0 ∷ 0 ∷ 1 ∷ 0 ∷ 0 ∷ 0 ∷ 0 ∷ 0 ∷ 0 ∷ 0 ∷ 1 ∷ 0 ∷ 0 ∷ 0 ∷ 0 ∷ 0 ∷ 0 ∷ 0 ∷ 4 ∷ 0 ∷ 0 ∷ 0 ∷ 0 ∷ 0 ∷ 0 ∷ 0 ∷ 6 ∷ 0 ∷ 0 ∷ 0 ∷ 0 ∷ 0 ∷ 0 ∷ 0 ∷ 229 ∷ 5 ∷ 245 ∷ 171 ∷ 222 ∷ 87 ∷ 20 ∷ 245 ∷ []

pub saved-0110 : saved_bits (false ∷ true ∷ true ∷ false ∷ []) ≡ four_bits
unfolding saved with_sum check_sum mix word_bytes limbs limb
saved-0110 = refl

pub fault_of-0110 : fault_of BIT_LISTS four_bits ≡ None
unfolding version_fault words_of bytes_word row_words is_summed is_padded check_sum mix
fault_of-0110 = refl

pub fault_of-none : fault_of BIT_LISTS [] ≡ Some TooShort
unfolding version_fault words_of
fault_of-none = refl

pub fault_of-other : fault_of SORTED_LISTS four_bits ≡ Some OtherKind
unfolding version_fault words_of bytes_word
fault_of-other = refl

pub fault_of-more : fault_of BIT_LISTS (four_bits ++ 0 ∷ []) ≡ Some BadLength
unfolding version_fault words_of bytes_word row_words
fault_of-more = refl

-- the elements 0, 1, 4 and 7: their number, their ends, the low parts 0101 and the high parts 011001010
pub sorted_words-0147 : sorted_words (0 ∷ 1 ∷ 4 ∷ 7 ∷ []) ≡ 4 ∷ 0 ∷ 7 ∷ 10 ∷ 166 ∷ []
unfolding high_parts high_length high_of ones_at is_element low_parts low_width width digits low_bits limb limbs
sorted_words-0147 = refl

pub decoded_elements-0147 : decoded_elements (4 ∷ 0 ∷ 7 ∷ 10 ∷ 166 ∷ []) ≡ 0 ∷ 1 ∷ 4 ∷ 7 ∷ []
unfolding decoded_elements elements select positions width digits low_bits
decoded_elements-0147 = refl

-- twelve bits with ones at 1 and 3: their number, and the words of these elements
pub sparse_words-1-3 :
    sparse_words (false ∷ true ∷ false ∷ true ∷ false ∷ false ∷ false ∷ false ∷ false ∷ false ∷ false ∷ false ∷ [])
    ≡ 12 ∷ 2 ∷ 1 ∷ 3 ∷ 0 ∷ 10 ∷ []
unfolding positions high_parts high_length high_of ones_at is_element low_parts low_width width digits low_bits limb limbs
sparse_words-1-3 = refl

-- in the first version, the elements and then the number of bits
pub position_words-1-3 :
    position_words (false ∷ true ∷ false ∷ true ∷ false ∷ false ∷ false ∷ false ∷ false ∷ false ∷ false ∷ false ∷ [])
    ≡ 1 ∷ 3 ∷ 12 ∷ []
unfolding positions
position_words-1-3 = refl

-- the documents 3 and 7 of term 0 and 1 of term 2, of 3 terms and documents below 10
pub inverted_words-three :
    inverted_words (record { lists = (3 ∷ 7 ∷ []) ∷ [] ∷ (1 ∷ []) ∷ []; universe = 10; numbers = 3 ∷ 7 ∷ 21 ∷ [] })
    ≡ 3 ∷ 10 ∷ 3 ∷ 3 ∷ 21 ∷ 160 ∷ 38 ∷ []
unfolding high_parts high_length high_of ones_at is_element low_parts low_width width digits low_bits limb limbs
inverted_words-three = refl

-- with 2 terms, the last number is past their documents
pub in_order-inverted : in_order InvertedParts (2 ∷ 10 ∷ 3 ∷ 3 ∷ 21 ∷ 160 ∷ 38 ∷ []) ≡ false
unfolding are_of_list decoded_elements elements select positions width digits low_bits limbs low_parts low_width limb high_parts ones_at is_element high_length high_of
in_order-inverted = refl

-- two documents and their costs, which need not ascend
pub posting_words-2-5 : posting_words (record { documents = 2 ∷ 5 ∷ []; costs = 7 ∷ 3 ∷ [] }) ≡ 2 ∷ 5 ∷ 7 ∷ 3 ∷ []
posting_words-2-5 = refl

pub in_order-documents : in_order HalfRising (2 ∷ 5 ∷ 7 ∷ 3 ∷ []) ≡ true
in_order-documents = refl

pub in_order-equal : in_order HalfRising (5 ∷ 5 ∷ 7 ∷ 3 ∷ []) ≡ false
in_order-equal = refl

pub in_order-rising : in_order Rising (1 ∷ 3 ∷ 3 ∷ []) ≡ false
in_order-rising = refl

pub in_order-ascending : in_order Ascending (1 ∷ 3 ∷ 3 ∷ []) ≡ true
in_order-ascending = refl
