-- Which reply a line has, and the current structure after it. The first of these rules that applies:
-- 1. the first word is no name: bad line;
-- 2. a load line with malformed arguments: bad line;
-- 3. a query that the current structure does not have, or there is no structure: wrong structure;
-- 4. a query with malformed arguments, or another number of them: bad line;
-- 5. a load line whose arguments are not admitted, or a query whose condition is not met: refused;
-- 6. the answer.
use Rattle.std.specs.Prelude.{ℕ, Bool, List, [], ◌∷◌, Option, option_and_then, option_map, Some, None, if◌then◌else◌}
use Rattle.std.specs.Int.{w64, cast_signed, cast_unsigned}
use Rattle.vers_words.specs.Loading.{map_loading}
use Rattle.vers_words.specs.declared.loading.Loading.{Loading}
use Rattle.vers_words.specs.declared.loading.Loading.TheVariants.{Malformed, Inadmissible, Accepted}
use Rattle.vers_words.specs.Arguments.{no_arguments, one_number, two_numbers, three_numbers, number_and_signed, all_numbers}
use Rattle.vers_words.specs.Reply.{PlainReply, BadLine, WrongStructure, Refused, Absent, Number, Signed, if_well_formed}
use Rattle.catalogue.specs.Structures.{Content, length_of, answer}
use Rattle.catalogue.specs.declared.answer.Answer.{Answer}
use Rattle.catalogue.specs.declared.answer.Answer.TheVariants as answer
use Rattle.vers_cli.specs.declared.name.Arguments.{Arguments}
use Rattle.vers_cli.specs.declared.name.Arguments.TheVariants.{NoNumber, OneNumber, TwoNumbers, ThreeNumbers, WithSigned}
use Rattle.vers_cli.specs.declared.name.Written.{Written}
use Rattle.vers_cli.specs.declared.name.Written.TheVariants as written
use Rattle.vers_cli.specs.declared.name.Line.{Line}
use Rattle.vers_cli.specs.declared.name.Line.TheVariants as line
use Rattle.vers_cli.specs.declared.name.Load.{Load}
use Rattle.vers_cli.specs.Holding.{Holding, loaded, held_after}
use Rattle.vers_cli.specs.Lists.{all_reply, walk_reply, common_reply, documents_reply, joined_reply}
use Rattle.vers_cli.specs.Names.{load_of, line_of, is_query}

-- the numbers of a query in the arguments of its line; 0 for those that it doesn't have, and a signed number as its 64 bits
abbrev pub numbers_of : Arguments → List (List ℕ) → Option (ℕ × ℕ × ℕ)
numbers_of NoNumber words = option_map (λ _. (0, 0, 0)) (no_arguments words)
numbers_of OneNumber words = option_map (λ a. (a, 0, 0)) (one_number words)
numbers_of TwoNumbers words = option_map (λ n. (n.0, n.1, 0)) (two_numbers words)
numbers_of ThreeNumbers words = three_numbers words
numbers_of WithSigned words = option_map (λ n. (n.0, cast_unsigned w64 n.1, 0)) (number_and_signed words)

-- the reply that an answer is written as
abbrev pub reply_of : Written → Answer → PlainReply
reply_of written.Signed (answer.Found n) = Signed (cast_signed w64 n)
reply_of _ (answer.Found n) = Number n
reply_of written.Required answer.Absent = Refused
reply_of _ answer.Absent = Absent
reply_of _ answer.Refused = Refused
reply_of _ answer.Unknown = WrongStructure

-- the reply to a query line
abbrev pub line_reply : Content → Line → List (List ℕ) → PlainReply
line_reply held (line.Number query arguments written) words =
    if_well_formed (numbers_of arguments words) (λ n. reply_of written (answer held query n.0 n.1 n.2))
line_reply held (line.All listing) words = if_well_formed (no_arguments words) (λ _. all_reply held listing)
line_reply held (line.Walk nodes) words = if_well_formed (one_number words) (λ v. walk_reply held nodes v)
line_reply held line.Common words = if_well_formed (all_numbers words) (λ others. common_reply held others)
line_reply held line.Documents words = if_well_formed (one_number words) (λ t. documents_reply held t)
line_reply held (line.Joined joint) words = if_well_formed (two_numbers words) (λ t. joined_reply held joint t.0 t.1)

-- the reply to a query line over the current structure, if there is one: its first word is the name of a query or not
abbrev pub query_reply : Holding → (is_name : Bool) → Option Line → List (List ℕ) → PlainReply
query_reply (Some held) is_name (Some line) words = line_reply held line words
query_reply held is_name line words = if is_name then WrongStructure else BadLine

-- the reply to a load line: the length if it is accepted
abbrev pub load_reply : Loading Content → PlainReply
load_reply Malformed = BadLine
load_reply Inadmissible = Refused
load_reply (Accepted held) = Number (length_of held)

-- the reply to a line, which is a load line or none
abbrev pub reply_by : Holding → Option Load → (word : List ℕ) → List (List ℕ) → PlainReply
reply_by held (Some load) word words = load_reply (loaded load words)
reply_by held None word words = query_reply held (is_query word) (option_and_then (λ content. line_of content word) held) words

-- the reply to a line of this first word
abbrev pub reply_to : Holding → (word : List ℕ) → List (List ℕ) → PlainReply
reply_to held word words = reply_by held (load_of word) word words

-- the structure after a line, which is a load line or none
abbrev pub holding_by : Holding → Option Load → List (List ℕ) → Holding
holding_by held None words = held
holding_by held (Some load) words = held_after held (map_loading Some (loaded load words))

-- the structure after a line of this first word
abbrev pub holding_after_word : Holding → (word : List ℕ) → List (List ℕ) → Holding
holding_after_word held word words = holding_by held (load_of word) words

-- the outcome of a line read as a load line, if it is one
abbrev pub load_outcome : Option Load → List (List ℕ) → Loading Content
load_outcome None words = Malformed
load_outcome (Some load) words = loaded load words

-- the outcome of a line of these words, read as a load line
unfoldable pub line_loaded : List (List ℕ) → Loading Content
line_loaded [] = Malformed
line_loaded (word ∷ words) = load_outcome (load_of word) words
