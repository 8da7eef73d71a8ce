-- The queries of a list of symbols, as numbers of at most 64 bits.
use Rattle.std.specs.Prelude.{ℕ, ◌-◌, ◌/◌, length, slice_get, Option}
use Rattle.vers_wavelet.specs.Symbols.{Symbols, range_elements, kth_by_size, greatest_up_to, least_from, as_word, matrix_size}
use Rattle.vers_wavelet.specs.Numbers.{low_bits_of, rank_before, rank_between, position_from}
use Rattle.catalogue.specs.declared.answer.Answer.{Answer}
use Rattle.catalogue.specs.declared.query.Query.{Query}
use Rattle.catalogue.specs.declared.query.Query.TheVariants.{Len, Get, HeapSize, Width, Symbols as OfSymbols}
use Rattle.catalogue.specs.declared.query.SymbolsQuery.{SymbolsQuery}
use Rattle.catalogue.specs.declared.query.SymbolsQuery.TheVariants.{RankOf, SelectOf, RankRange, SelectFrom, Quantile, Least, Greatest, Median, Predecessor, Successor}
use Rattle.catalogue.specs.declared.answer.Answer.TheVariants.{Found, Unknown}
use Rattle.catalogue.specs.Answers.{found_or_absent}

-- what is found of symbols of at most 64 bits; nothing of wider ones
abbrev pub if_numbers : Symbols → Option ℕ → Answer
if_numbers symbols found = found_or_absent (as_word symbols.width found)

-- what queries for symbols at positions, and for positions of symbols, find
abbrev pub found_of_symbols : Symbols → SymbolsQuery → ℕ → ℕ → ℕ → Option ℕ
found_of_symbols symbols RankOf a b c = rank_before symbols a b
found_of_symbols symbols SelectOf a b c = position_from symbols 0 a b
found_of_symbols symbols RankRange a b c = rank_between symbols a b c
found_of_symbols symbols SelectFrom a b c = position_from symbols a b c
found_of_symbols symbols Quantile a b c = kth_by_size (range_elements symbols.items a b) c
found_of_symbols symbols Least a b c = kth_by_size (range_elements symbols.items a b) 0
found_of_symbols symbols Greatest a b c = kth_by_size (range_elements symbols.items a b) (b - a - 1)
found_of_symbols symbols Median a b c = kth_by_size (range_elements symbols.items a b) ((b - 1 - a) / 2)
found_of_symbols symbols Predecessor a b c = greatest_up_to (range_elements symbols.items a b) (low_bits_of symbols c)
found_of_symbols symbols Successor a b c = least_from (range_elements symbols.items a b) (low_bits_of symbols c)

-- and what they answer
abbrev pub answer_of_symbols : Symbols → SymbolsQuery → ℕ → ℕ → ℕ → Answer
answer_of_symbols symbols query a b c = if_numbers symbols (found_of_symbols symbols query a b c)

-- the answer of each query
abbrev pub symbols_answer : Symbols → Query → ℕ → ℕ → ℕ → Answer
symbols_answer symbols Len a b c = Found (length symbols.items)
symbols_answer symbols Width a b c = Found symbols.width
symbols_answer symbols HeapSize a b c = Found (matrix_size symbols)
symbols_answer symbols Get a b c = if_numbers symbols (slice_get symbols.items a)
symbols_answer symbols (OfSymbols query) a b c = answer_of_symbols symbols query a b c
symbols_answer symbols _ a b c = Unknown
