-- Texts, in which patterns are found.
use Rattle.std.specs.Prelude.{◌≡◌, ◌⊎◌, ℕ, ◌==◌, ◌<◌, ◌≤◌, ◌∷◌, ◌&&◌, not, nat_le, List, length, slice_index, take, Option, Some, None, if◌then◌else◌}
use Rattle.std.specs.List.{slice_range}
use Rattle.text_index.specs.Texts.{positions_in_order, positions_of}
use Rattle.text_index.specs.Makers.{is_text}
use Rattle.catalogue.specs.Structures.{Content, IndexedText, PlainNumbers}
use Rattle.catalogue.specs.declared.answer.Answer.{Answer}
use Rattle.catalogue.specs.declared.answer.Answer.TheVariants.{Found, Unknown}
use Rattle.vers_c.specs.declared.answer.VersAnswer.{VersAnswer}
use Rattle.vers_c.specs.declared.status.TheConstants.{DONE, REFUSED, UNKNOWN, VACANT}
use Rattle.vers_c.specs.Answers.{as_vers_answer, vacant}

-- from symbols of a width, with a distance between samples that is not 0
abbrev pub text_made : List ℕ → ℕ → ℕ → Option Content
text_made symbols width step =
    if is_text width symbols && not (step == 0) then Some (IndexedText (record { width = width; items = symbols; step = step })) else None

-- how many occurrences a pattern has in some symbols
abbrev pub occurrences : List ℕ → List ℕ → ℕ
occurrences text pattern = length (positions_of text pattern)

-- how many occurrences a pattern has in a text
abbrev pub pattern_count : Content → List ℕ → Answer
pattern_count (IndexedText text) pattern = Found (occurrences text.items pattern)
pattern_count held pattern = Unknown

-- the same for a handle, which may be empty
abbrev pub contents_count : Option Content → List ℕ → VersAnswer
contents_count None pattern = vacant
contents_count (Some held) pattern = as_vers_answer (pattern_count held pattern)

-- the occurrences of a pattern in a text, ascending, as plain numbers
abbrev pub pattern_positions : Content → List ℕ → Option Content
pattern_positions (IndexedText text) pattern = Some (PlainNumbers (positions_of text.items pattern))
pattern_positions held pattern = None

-- the first occurrences of a pattern in the order of the suffixes, at most `limit`, as plain numbers
abbrev pub first_pattern_positions : Content → List ℕ → ℕ → Option Content
first_pattern_positions (IndexedText text) pattern limit = Some (PlainNumbers (take limit (positions_in_order text.items pattern)))
first_pattern_positions held pattern limit = None

-- the symbols of a text from one position to before another, as plain numbers, if it has these positions
abbrev pub piece : Content → ℕ → ℕ → Option Content
piece (IndexedText text) from to = if nat_le from to && nat_le to (length text.items) then Some (PlainNumbers (slice_range text.items from to)) else None
piece held from to = None

-- one of some joined patterns, by the position at which the first begins, and the end of each
abbrev pub pattern_at : List ℕ → ℕ → List ℕ → ℕ → List ℕ
pattern_at symbols start ends k = slice_range symbols (slice_index (start ∷ ends) k) (slice_index ends k)

-- each of these patterns ends not before it begins, and within a number of symbols
abbrev pub AreEnds : ℕ → ℕ → List ℕ → Type 0
AreEnds len start ends = (k : ℕ) → k < length ends → (slice_index (start ∷ ends) k ≤ slice_index ends k) × (slice_index ends k ≤ len)

-- numbers are how many occurrences each of these patterns has in a text
pub record AreCountsIn (text symbols : List ℕ) (start : ℕ) (ends counts : List ℕ) : Type 0 where
  pub long : length counts ≡ length ends
  pub each : (k : ℕ) → k < length ends → slice_index counts k ≡ occurrences text (pattern_at symbols start ends k)

-- what a count of joined patterns, the first of which begins at 0, writes over the ends, and its status
abbrev pub IsCounted : Option Content → List ℕ → List ℕ → List ℕ → ℕ → Type 0
IsCounted None symbols ends counts status = (status ≡ VACANT) × (counts ≡ ends)
IsCounted (Some (IndexedText text)) symbols ends counts status =
    ((status ≡ DONE) × AreEnds (length symbols) 0 ends × AreCountsIn text.items symbols 0 ends counts)
    ⊎ ((status ≡ REFUSED) × (¬ AreEnds (length symbols) 0 ends) × (counts ≡ ends))
IsCounted (Some held) symbols ends counts status = (status ≡ UNKNOWN) × (counts ≡ ends)
