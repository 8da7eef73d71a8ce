-- The queries of lists of bits.
use Rattle.std.specs.Prelude.{ℕ, ◌*◌, Bool, false, true, List, length, slice_get, option_map}
use Rattle.vers_bits.specs.Bits.{bit_value, count, limb_count, part_number, positions, select}
use Rattle.vers_rank.specs.Queries.{index_size, part_number_or_zero}
use Rattle.vers_sorted.specs.Layout.{heap_size_of}
use Rattle.catalogue.specs.declared.answer.Answer.{Answer}
use Rattle.catalogue.specs.declared.query.Query.{Query}
use Rattle.catalogue.specs.declared.query.Query.TheVariants.{Len, Get, GetBits, HeapSize, Rank0, Rank1, Select0, Select1}
use Rattle.catalogue.specs.declared.answer.Answer.TheVariants.{Found, Unknown}
use Rattle.catalogue.specs.Answers.{found_or_absent}

-- of a list that can change
abbrev pub growing_answer : List Bool → Query → ℕ → ℕ → ℕ → Answer
growing_answer bits Len a b c = Found (length bits)
growing_answer bits Get a b c = found_or_absent (option_map bit_value (slice_get bits a))
growing_answer bits GetBits a b c = found_or_absent (part_number bits a b)
growing_answer bits HeapSize a b c = Found (8 * limb_count (length bits))
growing_answer bits _ a b c = Unknown

-- of a list with ranks and selects
abbrev pub bits_answer : List Bool → Query → ℕ → ℕ → ℕ → Answer
bits_answer bits Len a b c = Found (length bits)
bits_answer bits Get a b c = found_or_absent (option_map bit_value (slice_get bits a))
bits_answer bits GetBits a b c = found_or_absent (part_number_or_zero bits a b)
bits_answer bits HeapSize a b c = Found (index_size bits)
bits_answer bits Rank0 a b c = Found (count false bits a)
bits_answer bits Rank1 a b c = Found (count true bits a)
bits_answer bits Select0 a b c = Found (select false bits a)
bits_answer bits Select1 a b c = Found (select true bits a)
bits_answer bits _ a b c = Unknown

-- of a list with few ones
abbrev pub sparse_answer : List Bool → Query → ℕ → ℕ → ℕ → Answer
sparse_answer bits Len a b c = Found (length bits)
sparse_answer bits Get a b c = found_or_absent (option_map bit_value (slice_get bits a))
sparse_answer bits HeapSize a b c = Found (heap_size_of (positions true bits))
sparse_answer bits Rank0 a b c = Found (count false bits a)
sparse_answer bits Rank1 a b c = Found (count true bits a)
sparse_answer bits Select1 a b c = Found (select true bits a)
sparse_answer bits _ a b c = Unknown
