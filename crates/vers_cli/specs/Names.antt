-- The names of lines.
use Rattle.std.specs.Prelude.{ℕ, Bool, ◌||◌, List, [], map, Option, None, is_some}
use Rattle.vers_words.specs.Names.{named}
use Rattle.catalogue.specs.Structures.{Content, IndexedBits, SparseBits, SortedElements, SymbolList, Parentheses, BlockValues, Documents, DocumentLists}
use Rattle.vers_cli.specs.declared.name.Line.{Line}
use Rattle.vers_cli.specs.declared.name.Load.{Load}
use Rattle.vers_cli.specs.declared.name.TheConstants.{LOADS, BITS_LINES, SORTED_LINES, SPARSE_LINES, VALUES_LINES, TREE_LINES, SYMBOLS_LINES, POSTINGS_LINES, INVERTED_LINES}

-- what a word is in one of the program's tables, unless it is none of its names
abbrev pub found_in : {N : Type 0} → List ((record { now : List ℕ }) × N) → List ℕ → Option N
found_in table = named (map (λ entry. (entry.0.now, entry.1)) table)

-- the load line that begins with a word
abbrev pub load_of : List ℕ → Option Load
load_of = found_in LOADS

-- the query line of a structure that begins with a word; the program makes none of the others
abbrev pub line_of : Content → List ℕ → Option Line
line_of (IndexedBits bits) = found_in BITS_LINES
line_of (SortedElements elements) = found_in SORTED_LINES
line_of (SparseBits bits) = found_in SPARSE_LINES
line_of (BlockValues values) = found_in VALUES_LINES
line_of (Parentheses bits) = found_in TREE_LINES
line_of (SymbolList symbols) = found_in SYMBOLS_LINES
line_of (Documents posted) = found_in POSTINGS_LINES
line_of (DocumentLists index) = found_in INVERTED_LINES
line_of _ = λ word. None

-- whether a query line of some structure begins with a word
abbrev pub is_query : List ℕ → Bool
is_query word =
    is_some (found_in BITS_LINES word) || is_some (found_in SORTED_LINES word) || is_some (found_in SPARSE_LINES word)
    || is_some (found_in VALUES_LINES word) || is_some (found_in TREE_LINES word) || is_some (found_in SYMBOLS_LINES word)
    || is_some (found_in POSTINGS_LINES word) || is_some (found_in INVERTED_LINES word)
