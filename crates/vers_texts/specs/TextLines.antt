-- The lines of a text.
use Rattle.std.specs.Prelude.{ℕ, ◌&&◌, nat_le, List, length, slice_range, take, Option, Some, None, if◌then◌else◌}
use Rattle.text_index.specs.Texts.{positions_in_order, positions_of}
use Rattle.text_index.specs.Makers.{is_text}
use Rattle.vers_words.specs.Arguments.{no_arguments, two_numbers}
use Rattle.vers_words.specs.Patterns.{number_and_pattern, pattern_of, pattern_text}
use Rattle.vers_words.specs.Text.{words_in}
use Rattle.vers_words.specs.Reply.{PlainReply, BadLine, Refused, Number, Absent, Numbers, Text, if_well_formed}
use Rattle.vers_texts.specs.declared.name.Query.{Query}
use Rattle.vers_texts.specs.declared.name.Query.TheVariants.{Len, Count, Positions, First, Extract, Piece, Sites}
use Rattle.vers_texts.specs.Sites.{sites_reply}

-- the reply of the load line `text K PATTERN`, for its width and its symbols: how many symbols the text has
abbrev pub text_reply : Option (ℕ × List ℕ) → PlainReply
text_reply None = BadLine
text_reply (Some (width, symbols)) = if is_text width symbols then Number (length symbols) else Refused

-- the text after that line: unchanged unless the line is accepted
abbrev pub held_after_text : Option (List ℕ) → Option (ℕ × List ℕ) → Option (List ℕ)
held_after_text held None = held
held_after_text held (Some (width, symbols)) = if is_text width symbols then Some symbols else held

-- the reply to a query for the symbols from one position to before another
abbrev pub piece_reply : List ℕ → ℕ → ℕ → PlainReply
piece_reply text from to = if nat_le from to && nat_le to (length text) then Numbers (slice_range text from to) else Absent

-- the reply to a query for these symbols as a pattern
abbrev pub pattern_reply : List ℕ → ℕ → ℕ → PlainReply
pattern_reply text from to = if nat_le from to && nat_le to (length text) then Text (pattern_text (slice_range text from to)) else Absent

-- the reply to a query line for this text, by the text after its first word
abbrev pub query_reply : List ℕ → Query → List ℕ → PlainReply
query_reply text Len arguments = if_well_formed (no_arguments (words_in arguments)) (λ nothing. Number (length text))
query_reply text Count arguments = if_well_formed (pattern_of arguments) (λ pattern. Number (length (positions_of text pattern)))
query_reply text Positions arguments = if_well_formed (pattern_of arguments) (λ pattern. Numbers (positions_of text pattern))
query_reply text First arguments = if_well_formed (number_and_pattern arguments) (λ both. Numbers (take both.0 (positions_in_order text both.1)))
query_reply text Extract arguments = if_well_formed (two_numbers (words_in arguments)) (λ range. piece_reply text range.0 range.1)
query_reply text Piece arguments = if_well_formed (two_numbers (words_in arguments)) (λ range. pattern_reply text range.0 range.1)
query_reply text Sites arguments = if_well_formed (pattern_of arguments) (λ pattern. sites_reply text pattern)
