-- The current structure between lines, as a plain list, and what a load line makes. Another structure adds a clause to `loaded`.
use Rattle.std.specs.Prelude.{ℕ, Bool, false, true, List, Option, None, Some}
use Rattle.vers_words.specs.Arguments.{bits_of, all_numbers}
use Rattle.vers_words.specs.Loading.{map_loading}
use Rattle.vers_words.specs.declared.loading.Loading.{Loading}
use Rattle.vers_words.specs.declared.loading.Loading.TheVariants.{Malformed, Inadmissible, Accepted}
use Rattle.catalogue.specs.Structures.{Content, IndexedBits, SparseBits, SortedElements, SymbolList, Parentheses, BlockValues, Documents, DocumentLists, content_of, length_of}
use Rattle.vers_cli.specs.declared.held.Held.{Held}
use Rattle.vers_cli.specs.declared.held.Held.TheVariants as held
use Rattle.vers_cli.specs.declared.name.Load.{Load}
use Rattle.vers_cli.specs.declared.name.Load.TheVariants as load
use Rattle.vers_cli.specs.Loads.{bits_loaded, sorted_loaded, sparse_loaded, values_loaded, tree_loaded, symbols_loaded, postings_loaded, inverted_loaded}

-- the list of the last accepted load line, if there was one
abbrev pub Holding : Type 0
Holding = Option Content

-- the current structure as a plain list
abbrev pub holding_of : {A : Type 0} → Held A → Holding
holding_of held.Nothing = None
holding_of (held.Holding structure) = Some (content_of structure)

-- its length, or 0 if there is none
abbrev pub length_held : Holding → ℕ
length_held None = 0
length_held (Some content) = length_of content

-- the result of a load line
abbrev pub loaded : Load → List (List ℕ) → Loading Content
loaded load.Bits arguments = map_loading IndexedBits (bits_loaded (bits_of arguments))
loaded load.Sorted arguments = map_loading SortedElements (sorted_loaded (all_numbers arguments))
loaded load.Sparse arguments = map_loading SparseBits (sparse_loaded (all_numbers arguments))
loaded load.Values arguments = map_loading BlockValues (values_loaded (all_numbers arguments))
loaded load.Tree arguments = map_loading Parentheses (tree_loaded (bits_of arguments))
loaded load.Symbols arguments = map_loading SymbolList (symbols_loaded (all_numbers arguments))
loaded load.Postings arguments = map_loading Documents (postings_loaded (all_numbers arguments))
loaded load.Inverted arguments = map_loading DocumentLists (inverted_loaded (all_numbers arguments))

-- the result of a load line, without what it writes
abbrev pub outcome_of : {H : Type 0} → Loading H → Loading (Unit {0})
outcome_of loading = map_loading (λ _. tt) loading

-- whether a load line with this outcome is accepted
abbrev pub is_accepted : {H : Type 0} → Loading H → Bool
is_accepted Malformed = false
is_accepted Inadmissible = false
is_accepted (Accepted new) = true

-- the structure after a load line with this outcome: unchanged unless the line is accepted
abbrev pub held_after : {H : Type 0} → H → Loading H → H
held_after held Malformed = held
held_after held Inadmissible = held
held_after held (Accepted new) = new
