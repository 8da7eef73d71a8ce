-- The load lines, for the numbers or bits that their arguments write.
use Rattle.std.specs.Prelude.{ℕ, Bool, true, false, ◌&&◌, nat_le, nat_lt, List, [], ◌∷◌, length, Option, option_map, Some, None, if◌then◌else◌}
use Rattle.std.specs.List.{list_all}
use Rattle.std.specs.Option.{option_and_then}
use Rattle.inverted.specs.Lists.{Lists}
use Rattle.inverted.specs.Makers.{index_of, refusal_of}
use Rattle.inverted.specs.declared.fault.InvertedError.{InvertedError}
use Rattle.postings.specs.Posted.{Posted}
use Rattle.vers_bits.specs.declared.bit_vec.TheConstants as bits
use Rattle.vers_rmq.specs.declared.rmq.fast_rmq.TheConstants as values
use Rattle.vers_sorted.specs.Ones.{ones_at}
use Rattle.vers_sorted.specs.Sorted.{each_next}
use Rattle.vers_trees.specs.declared.trees.bp.TheConstants as trees
use Rattle.vers_wavelet.specs.Makers.{low_symbols}
use Rattle.vers_wavelet.specs.Symbols.{Symbols}
use Rattle.vers_words.specs.Text.{number_of}
use Rattle.vers_words.specs.declared.loading.Loading.{Loading}
use Rattle.vers_words.specs.declared.loading.Loading.TheVariants.{Malformed, Inadmissible, Accepted}

-- the load line `bits S`, for the bits that S writes
abbrev pub bits_loaded : Option (List Bool) → Loading (List Bool)
bits_loaded None = Malformed
bits_loaded (Some list) = if nat_le (length list) bits.MAX_LEN then Accepted list else Inadmissible

-- the load line `sorted n ..`, for its numbers, which have to ascend
abbrev pub sorted_loaded : Option (List ℕ) → Loading (List ℕ)
sorted_loaded None = Malformed
sorted_loaded (Some numbers) = if each_next nat_le numbers then Accepted numbers else Inadmissible

-- whether a number may precede the next one in numbers that ascend, strictly or not
abbrev pub in_order : Bool → ℕ → ℕ → Bool
in_order true = nat_lt
in_order false = nat_le

-- a number, if there is one, before others
abbrev pub first_then : Option ℕ → List ℕ → List ℕ
first_then None others = []
first_then (Some number) others = number ∷ others

-- the numbers that words write, up to the first word that writes none
abbrev pub first_numbers : List (List ℕ) → List ℕ
first_numbers [] = []
first_numbers (word ∷ more) = first_then (number_of word) (first_numbers more)

-- the load line `sparse LEN p ..`, for its numbers: the positions have to ascend strictly, below LEN
abbrev pub sparse_loaded : Option (List ℕ) → Loading (List Bool)
sparse_loaded None = Malformed
sparse_loaded (Some []) = Malformed
sparse_loaded (Some (len ∷ ones)) = if each_next nat_lt ones && list_all (λ position. nat_lt position len) ones then Accepted (ones_at ones len) else Inadmissible

-- the load line `values n ..`, for its numbers
abbrev pub values_loaded : Option (List ℕ) → Loading (List ℕ)
values_loaded None = Malformed
values_loaded (Some numbers) = if nat_le (length numbers) values.MAX_LEN then Accepted numbers else Inadmissible

-- the load line `tree S`, for the bits that S writes
abbrev pub tree_loaded : Option (List Bool) → Loading (List Bool)
tree_loaded None = Malformed
tree_loaded (Some list) = if nat_le (length list) trees.MAX_LEN then Accepted list else Inadmissible

-- the load line `symbols K n ..`, for its numbers: a width of at most 64 bits, and numbers of which as many low bits count
abbrev pub symbols_loaded : Option (List ℕ) → Loading Symbols
symbols_loaded None = Malformed
symbols_loaded (Some []) = Malformed
symbols_loaded (Some (width ∷ numbers)) =
    if nat_le width 64 then Accepted (record { width = width; items = low_symbols numbers width }) else Inadmissible

-- a document with its cost, before others
abbrev pub posted_first : ℕ → ℕ → Posted → Posted
posted_first document cost others = record { documents = document ∷ others.documents; costs = cost ∷ others.costs }

-- numbers read as pairs of a document and its cost; `None` if the last document has no cost
abbrev pub posted_of : List ℕ → Option Posted
posted_of [] = Some (record { documents = []; costs = [] })
posted_of (document ∷ []) = None
posted_of (document ∷ cost ∷ more) = option_map (posted_first document cost) (posted_of more)

-- whether documents ascend strictly, and are not too many
abbrev pub are_admitted : List ℕ → Bool
are_admitted documents = each_next nat_lt documents && nat_le (length documents) values.MAX_LEN

-- how many documents there are, if they ascend strictly
abbrev pub rising_count : Option Posted → Option ℕ
rising_count None = None
rising_count (Some posted) = if each_next nat_lt posted.documents then Some (length posted.documents) else None

-- documents with their costs, if the documents are admitted
abbrev pub if_admitted : Posted → Option Posted
if_admitted posted = if are_admitted posted.documents then Some posted else None

-- what is accepted, or not admitted
abbrev pub accepted_or_not : Option Posted → Loading Posted
accepted_or_not None = Inadmissible
accepted_or_not (Some posted) = Accepted posted

-- the load line `postings d c ..`, for the documents and costs that its numbers write
abbrev pub posted_loaded : Option Posted → Loading Posted
posted_loaded None = Malformed
posted_loaded (Some posted) = accepted_or_not (if_admitted posted)

-- the load line `postings d c ..`, for its numbers
abbrev pub postings_loaded : Option (List ℕ) → Loading Posted
postings_loaded numbers = posted_loaded (option_and_then posted_of numbers)

-- numbers read as pairs, without a last number that has no second one
abbrev pub pairs_in : List ℕ → List (ℕ × ℕ)
pairs_in [] = []
pairs_in (n ∷ []) = []
pairs_in (m ∷ n ∷ more) = (m, n) ∷ pairs_in more

-- the same, `None` if the last number has no second one
abbrev pub pairs_of : List ℕ → Option (List (ℕ × ℕ))
pairs_of [] = Some []
pairs_of (n ∷ []) = None
pairs_of (m ∷ n ∷ more) = option_map (λ others. (m, n) ∷ others) (pairs_of more)

-- numbers read as the limits of terms and of documents, and then pairs of these
abbrev pub index_parts : List ℕ → Option (ℕ × ℕ × List (ℕ × ℕ))
index_parts [] = None
index_parts (terms ∷ []) = None
index_parts (terms ∷ universe ∷ numbers) = option_map (λ pairs. (terms, universe, pairs)) (pairs_of numbers)

-- an index, unless there is a reason against it
abbrev pub accepted_unless : Option InvertedError → Lists → Loading Lists
accepted_unless None index = Accepted index
accepted_unless (Some reason) index = Inadmissible

-- the load line `inverted TERMS UNIVERSE t d ..`, for the limits and pairs that its numbers write
abbrev pub index_loaded : Option (ℕ × ℕ × List (ℕ × ℕ)) → Loading Lists
index_loaded None = Malformed
index_loaded (Some (terms, universe, pairs)) = accepted_unless (refusal_of terms universe pairs) (index_of terms universe pairs)

-- the load line `inverted TERMS UNIVERSE t d ..`, for its numbers
abbrev pub inverted_loaded : Option (List ℕ) → Loading Lists
inverted_loaded numbers = index_loaded (option_and_then index_parts numbers)
