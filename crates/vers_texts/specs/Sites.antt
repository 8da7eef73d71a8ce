-- Occurrences in the sequences of a FASTA text, by the name of the sequence and the offset in it.
use Rattle.std.specs.Prelude.{ℕ, Bool, ◌&&◌, ◌||◌, ◌==◌, ◌+◌, ◌-◌, ◌%◌, nat_le, nat_lt, List, [], ◌∷◌, ◌++◌, length, map, flat_map, slice_index, slice_range, count_by, decimal, if◌then◌else◌}
use Rattle.std.specs.List.{list_all}
use Rattle.text_index.specs.Texts.{positions_of}
use Rattle.vers_words.specs.Reply.{PlainReply, Refused, Text}
use Rattle.vers_words.specs.Text.{has_bytes}
use Rattle.vers_texts.specs.Fasta.{is_residue}

-- the positions of the line feeds of a text
abbrev pub feeds_of : List ℕ → List ℕ
feeds_of text = positions_of text (10 ∷ [])

-- how many of these precede a position
abbrev pub feeds_before : List ℕ → ℕ → ℕ
feeds_before feeds position = count_by (λ feed. nat_lt feed position) feeds

-- the last two of these before a position
abbrev pub feed_before_name : List ℕ → ℕ → ℕ
feed_before_name feeds position = slice_index feeds (feeds_before feeds position - 2)

abbrev pub feed_after_name : List ℕ → ℕ → ℕ
feed_after_name feeds position = slice_index feeds (feeds_before feeds position - 1)

-- whether symbols are a name as a FASTA text has it: one or more bytes, each with its highest bit set
abbrev pub is_marked_name : List ℕ → Bool
is_marked_name symbols = has_bytes symbols && list_all (λ s. nat_le 128 s && nat_le s 255) symbols

-- a name between two line feeds, each byte without its highest bit, and how far past the second one a position is
abbrev pub site_between : List ℕ → ℕ → ℕ → ℕ → List ℕ
site_between text from to position = map (λ s. s % 128) (slice_range text (from + 1) to) ++ 32 ∷ decimal (position - (to + 1))

-- the site of a position: the name of its sequence, a space and the offset, by the last two line feeds before it
abbrev pub site_of : List ℕ → List ℕ → ℕ → List ℕ
site_of text feeds position = site_between text (feed_before_name feeds position) (feed_after_name feeds position) position

-- the sites of positions, with spaces between them
abbrev pub sites_of : List ℕ → List ℕ → List ℕ → List ℕ
sites_of text feeds [] = []
sites_of text feeds (position ∷ positions) = site_of text feeds position ++ flat_map (λ other. 32 ∷ site_of text feeds other) positions

-- whether a position is in a sequence: pairs of line feeds precede it, and a name is between the last two
abbrev pub is_in_sequence : List ℕ → List ℕ → ℕ → Bool
is_in_sequence text feeds position =
    (nat_le 2 (feeds_before feeds position) && (feeds_before feeds position % 2 == 0))
    && is_marked_name (slice_range text (feed_before_name feeds position + 1) (feed_after_name feeds position))

-- whether a text has the line feeds of a FASTA text: two for each sequence, the first at its start unless it is empty
abbrev pub has_pairs_of_feeds : List ℕ → List ℕ → Bool
has_pairs_of_feeds text feeds = (length feeds % 2 == 0) && ((length text == 0) || (nat_lt 0 (length feeds) && (slice_index feeds 0 == 0)))

-- the reply to a query for the sites of a pattern: refused unless the pattern has residues alone, the text has the line feeds of a FASTA text, and each occurrence is in a sequence
abbrev pub sites_reply : List ℕ → List ℕ → PlainReply
sites_reply text pattern =
    if (has_bytes pattern && list_all is_residue pattern) && (has_pairs_of_feeds text (feeds_of text) && list_all (is_in_sequence text (feeds_of text)) (positions_of text pattern))
    then Text (sites_of text (feeds_of text) (positions_of text pattern))
    else Refused
