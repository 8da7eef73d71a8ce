-- Lines that are answered by the text of a reply.
use Rattle.std.specs.Prelude.{ℕ, ◌++◌, List, [], ◌∷◌, Option, Some, None}
use Rattle.std.specs.Io.BufRead.{strip_last}
use Rattle.vers_words.specs.Text.{first_word}
use Rattle.vers_words.specs.Reply.{PlainReply, reply_text}
use Rattle.vers_engine.specs.Answers.{Answering}

-- how lines are replied to: the reply of a line, and the structure after it, by the structure before it, its first word, and the text
-- after that
pub record Replying (H : Type 0) : Type 0 where
  pub reply_to : H → List ℕ → List ℕ → PlainReply
  pub holding_after : H → List ℕ → List ℕ → H

-- the answer to a line with this first word and the text after it: nothing if there is none, otherwise the reply and the end of its line
unfoldable pub answer_to_parts : {H : Type 0} → Replying H → H → Option (List ℕ × List ℕ) → List ℕ
answer_to_parts by held None = []
answer_to_parts by held (Some parts) = reply_text (by.reply_to held parts.0 parts.1) ++ 10 ∷ []

-- the structure after a line with this first word and the text after it
unfoldable pub holding_after_parts : {H : Type 0} → Replying H → H → Option (List ℕ × List ℕ) → H
holding_after_parts by held None = held
holding_after_parts by held (Some parts) = by.holding_after held parts.0 parts.1

-- how lines are answered that are replied to so
abbrev pub answering_by : {H : Type 0} → Replying H → Answering H
answering_by by = record {
  answer_to = λ held line. answer_to_parts by held (first_word (strip_last 13 line));
  holding_after = λ held line. holding_after_parts by held (first_word (strip_last 13 line));
}
