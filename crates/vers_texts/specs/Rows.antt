-- Worked rows of the definitions, which compute.
use Rattle.std.specs.Prelude.{◌≡◌, ℕ, ◌++◌, List, [], ◌∷◌, codes, Option, Some, None, refl}
use Rattle.std.specs.Fmt.{digits}
use Rattle.text_index.specs.Texts.{begins_with, suffixes_before, by_suffix, comes_before, occurs_at, positions_in_order, positions_of}
use Rattle.vers_words.specs.Patterns.{gone_on, pattern_of, pattern_text}
use Rattle.vers_words.specs.Text.{number_of}
use Rattle.vers_engine.specs.Lines.{lines_of}
use Rattle.vers_engine.specs.Replies.{answer_to_parts, holding_after_parts}
use Rattle.vers_texts.specs.declared.name.Name.TheVariants.{Query}
use Rattle.vers_texts.specs.declared.name.Query.TheVariants.{Count}
use Rattle.vers_texts.specs.Fasta.{fasta_fault, fasta_text, text_of_lines, wrong_line}
use Rattle.vers_texts.specs.Name.{name_of}
use Rattle.vers_texts.specs.Answers.{by_the_rules, answers_to}

-- a text with the end of a line
abbrev ended : List ℕ → List ℕ
ended text = text ++ 10 ∷ []

-- the answer of a line
abbrev answer_to : Option (List ℕ) → List ℕ → List ℕ
answer_to held line = by_the_rules.answer_to held line

-- the current text after a line
abbrev holding_after : Option (List ℕ) → List ℕ → Option (List ℕ)
holding_after held line = by_the_rules.holding_after held line

-- five symbols
abbrev held_21212 : Option (List ℕ)
held_21212 = Some (2 ∷ 1 ∷ 2 ∷ 1 ∷ 2 ∷ [])

pub name_of-count : name_of (codes "count") ≡ Some (Query Count)
name_of-count = refl

pub name_of-counts : name_of (codes "counts") ≡ None
name_of-counts = refl

-- the answer to the load line is how many symbols the text has, and the text is the current one
pub answer-text_21212 : answer_to None (codes "text 2 2 1 2 1 2") ≡ ended (codes "5")
unfolding answer_to_parts number_of digits
answer-text_21212 = refl

pub held-text_21212 : holding_after None (codes "text 2 2 1 2 1 2") ≡ held_21212
unfolding holding_after_parts number_of
held-text_21212 = refl

-- a text without symbols
pub held-text_of_none : holding_after held_21212 (codes "text 16") ≡ Some []
unfolding holding_after_parts number_of
held-text_of_none = refl

-- symbols have 1 to 16 bits, and none has more than the line's number; a refused line keeps the current text
pub answer-text_0 : answer_to held_21212 (codes "text 0") ≡ ended (codes "refused")
unfolding answer_to_parts number_of
answer-text_0 = refl

pub answer-text_17 : answer_to held_21212 (codes "text 17 1") ≡ ended (codes "refused")
unfolding answer_to_parts number_of
answer-text_17 = refl

pub answer-text_1_2 : answer_to held_21212 (codes "text 1 2") ≡ ended (codes "refused")
unfolding answer_to_parts number_of
answer-text_1_2 = refl

pub held-text_1_2 : holding_after held_21212 (codes "text 1 2") ≡ held_21212
unfolding holding_after_parts number_of
held-text_1_2 = refl

-- a line without a width, and one with a word that is no number
pub answer-no_width : answer_to held_21212 (codes "text") ≡ ended (codes "bad line")
unfolding answer_to_parts
answer-no_width = refl

pub answer-text_x : answer_to held_21212 (codes "text 2 1 x") ≡ ended (codes "bad line")
unfolding answer_to_parts number_of
answer-text_x = refl

-- how many positions a pattern has, and which; occurrences may overlap
pub answer-count_2_1 : answer_to held_21212 (codes "count 2 1") ≡ ended (codes "2")
unfolding answer_to_parts number_of positions_of occurs_at begins_with digits
answer-count_2_1 = refl

pub answer-positions_2_1_2 : answer_to held_21212 (codes "places 2 1 2") ≡ ended (codes "0 2")
unfolding answer_to_parts number_of positions_of occurs_at begins_with digits
answer-positions_2_1_2 = refl

-- the empty pattern occurs at the text's end too, and a symbol that is too wide does not occur
pub answer-positions_of_none : answer_to held_21212 (codes "places") ≡ ended (codes "0 1 2 3 4 5")
unfolding answer_to_parts positions_of occurs_at begins_with digits
answer-positions_of_none = refl

pub answer-count_9 : answer_to held_21212 (codes "count 9") ≡ ended (codes "0")
unfolding answer_to_parts number_of positions_of occurs_at begins_with digits
answer-count_9 = refl

pub answer-positions_9 : answer_to held_21212 (codes "places 9") ≡ ended []
unfolding answer_to_parts number_of positions_of occurs_at begins_with
answer-positions_9 = refl

-- the first two in the order of the suffixes
pub answer-first_2 : answer_to held_21212 (codes "first 2 2") ≡ ended (codes "4 2")
unfolding answer_to_parts number_of positions_in_order by_suffix suffixes_before comes_before occurs_at begins_with digits
answer-first_2 = refl

-- a text in quotes is its bytes
pub answer-quoted : answer_to (Some (codes "to be")) (codes "places \"o b\"") ≡ ended (codes "1")
unfolding answer_to_parts positions_of occurs_at begins_with digits
answer-quoted = refl

pub answer-open_quote : answer_to (Some (codes "to be")) (codes "count \"o b") ≡ ended (codes "bad line")
unfolding answer_to_parts
answer-open_quote = refl

-- a piece from a position on, before another; one that ends before it starts, and one past the end
pub answer-extract_1_4 : answer_to held_21212 (codes "extract 1 4") ≡ ended (codes "1 2 1")
unfolding answer_to_parts number_of digits
answer-extract_1_4 = refl

pub answer-extract_5_5 : answer_to held_21212 (codes "extract 5 5") ≡ ended []
unfolding answer_to_parts number_of
answer-extract_5_5 = refl

pub answer-extract_3_2 : answer_to held_21212 (codes "extract 3 2") ≡ ended (codes "none")
unfolding answer_to_parts number_of
answer-extract_3_2 = refl

pub answer-extract_0_6 : answer_to held_21212 (codes "extract 0 6") ≡ ended (codes "none")
unfolding answer_to_parts number_of
answer-extract_0_6 = refl

-- the name is tested before the current text, and the text before the arguments
pub answer-no_name : answer_to None (codes "find 1") ≡ ended (codes "bad line")
unfolding answer_to_parts
answer-no_name = refl

pub answer-nothing_held : answer_to None (codes "extract x") ≡ ended (codes "wrong structure")
unfolding answer_to_parts
answer-nothing_held = refl

pub answer-one_argument : answer_to held_21212 (codes "extract 1") ≡ ended (codes "bad line")
unfolding answer_to_parts
answer-one_argument = refl

pub answer-len_1 : answer_to held_21212 (codes "len 1") ≡ ended (codes "bad line")
unfolding answer_to_parts
answer-len_1 = refl

-- an input and all its answers
abbrev input : List ℕ
input = ended (codes "text 2 2 1 2 1 2") ++ ended (codes "count 2 1 2") ++ ended (codes "text 1 2") ++ ended [] ++ codes "len"

pub answers-input : answers_to None (lines_of input)
    ≡ ended (codes "5") ++ ended (codes "2") ++ ended (codes "refused") ++ ended (codes "5")
unfolding answer_to_parts holding_after_parts number_of positions_of occurs_at begins_with digits
answers-input = refl

-- ---- FASTA files

-- a file of two sequences; the first header continues after the name, and the last line has no end
abbrev two_sequences : List ℕ
two_sequences = ended (codes ">ch one") ++ ended (codes "AC") ++ ended (codes "GTA") ++ ended (codes ">d") ++ codes "GTAC"

-- its text: each name between line feeds, c, h and d with the highest bit set
abbrev text_of_two : List ℕ
text_of_two = 10 ∷ 227 ∷ 232 ∷ 10 ∷ codes "ACGTA" ++ 10 ∷ 228 ∷ 10 ∷ codes "GTAC"

pub fasta_text-two : fasta_text two_sequences ≡ text_of_two
unfolding text_of_lines
fasta_text-two = refl

pub fasta_fault-two : fasta_fault two_sequences ≡ None
unfolding wrong_line
fasta_fault-two = refl

-- residues before the first header, and a space among residues
pub fasta_fault-no_header : fasta_fault (ended (codes "AC") ++ codes ">d") ≡ Some 1
unfolding wrong_line
fasta_fault-no_header = refl

pub fasta_fault-space : fasta_fault (ended (codes ">d") ++ ended (codes "AC") ++ codes "A C") ≡ Some 3
unfolding wrong_line
fasta_fault-space = refl

-- a header without a name
pub fasta_fault-no_name : fasta_fault (codes "> d") ≡ Some 1
unfolding wrong_line
fasta_fault-no_name = refl

-- occurrences by the names of their sequences
pub answer-sites_TA : answer_to (Some text_of_two) (codes "sites \"TA\"") ≡ ended (codes "ch 3 d 1")
unfolding answer_to_parts positions_of occurs_at begins_with digits
answer-sites_TA = refl

-- a pattern doesn't occur across two sequences, and one with another byte is refused
pub answer-sites_AG : answer_to (Some text_of_two) (codes "sites \"AG\"") ≡ ended []
unfolding answer_to_parts positions_of occurs_at begins_with
answer-sites_AG = refl

pub answer-sites_10 : answer_to (Some text_of_two) (codes "sites 10") ≡ ended (codes "refused")
unfolding answer_to_parts number_of
answer-sites_10 = refl

-- a text without names
pub answer-sites_of_none : answer_to (Some (codes "GATTA")) (codes "sites \"T\"") ≡ ended (codes "refused")
unfolding answer_to_parts positions_of occurs_at begins_with
answer-sites_of_none = refl

-- a text with an unpaired line feed, and one with other bytes between two of them
pub answer-sites_of_lines : answer_to (Some (ended (codes "a") ++ ended (codes "bc") ++ ended (codes "GATTA"))) (codes "sites \"TA\"") ≡ ended (codes "refused")
unfolding answer_to_parts positions_of occurs_at begins_with
answer-sites_of_lines = refl

pub answer-sites_of_no_name : answer_to (Some (ended [] ++ ended (codes "bc") ++ codes "GATTA")) (codes "sites \"TA\"") ≡ ended (codes "refused")
unfolding answer_to_parts positions_of occurs_at begins_with
answer-sites_of_no_name = refl

-- a piece as a pattern, which reads back
pub answer-piece : answer_to (Some text_of_two) (codes "piece 8 13") ≡ ended (codes "\"A\" 0x0A 0xE4 0x0A \"G\"")
unfolding answer_to_parts number_of pattern_text gone_on
answer-piece = refl

pub pattern-piece : pattern_of (pattern_text (97 ∷ 32 ∷ 98 ∷ 34 ∷ 10 ∷ 255 ∷ 353 ∷ 99 ∷ [])) ≡ Some (97 ∷ 32 ∷ 98 ∷ 34 ∷ 10 ∷ 255 ∷ 353 ∷ 99 ∷ [])
unfolding number_of pattern_text gone_on digits
pattern-piece = refl
