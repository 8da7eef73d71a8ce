-- Which reply a line has, and the current text after it. The first of these rules that applies:
-- 1. the first word is no name: bad line;
-- 2. a load line with malformed arguments, or without a width: bad line;
-- 3. a query while there is no text: wrong structure;
-- 4. a query with malformed arguments, or another number of them: bad line;
-- 5. a load line that writes no text: refused;
-- 6. the answer.
use Rattle.std.specs.Prelude.{ℕ, List, Option, Some, None}
use Rattle.vers_words.specs.Patterns.{number_and_pattern}
use Rattle.vers_words.specs.Reply.{PlainReply, BadLine, WrongStructure}
use Rattle.vers_engine.specs.Replies.{Replying}
use Rattle.vers_texts.specs.declared.name.Name.{Name}
use Rattle.vers_texts.specs.declared.name.Name.TheVariants as name
use Rattle.vers_texts.specs.Name.{name_of}
use Rattle.vers_texts.specs.TextLines.{text_reply, held_after_text, query_reply}

-- the reply of a line whose first word is this name, or none
abbrev pub reply_to : Option (List ℕ) → Option Name → List ℕ → PlainReply
reply_to held None arguments = BadLine
reply_to held (Some name.Text) arguments = text_reply (number_and_pattern arguments)
reply_to None (Some (name.Query query)) arguments = WrongStructure
reply_to (Some text) (Some (name.Query query)) arguments = query_reply text query arguments

-- the text after a line whose first word is this name, or none
abbrev pub holding_after_name : Option (List ℕ) → Option Name → List ℕ → Option (List ℕ)
holding_after_name held None arguments = held
holding_after_name held (Some name.Text) arguments = held_after_text held (number_and_pattern arguments)
holding_after_name held (Some (name.Query query)) arguments = held

-- both, by the first word of a line and the text after it
abbrev pub replies_by_the_rules : Replying (Option (List ℕ))
replies_by_the_rules = record {
  reply_to = λ held word arguments. reply_to held (name_of word) arguments;
  holding_after = λ held word arguments. holding_after_name held (name_of word) arguments;
}
