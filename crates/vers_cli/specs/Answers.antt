-- Answer texts: what the program writes for the lines of an input.
use Rattle.std.specs.Prelude.{ℕ, List, None, Result}
use Rattle.vers_engine.specs.declared.engine.RunError.{RunError}
use Rattle.vers_engine.specs.Answers.{Answering, answers_of, WrittenOf}
use Rattle.vers_engine.specs.Replies.{Replying, answering_by}
use Rattle.vers_words.specs.Text.{words_in}
use Rattle.vers_cli.specs.Holding.{Holding}
use Rattle.vers_cli.specs.Rules.{reply_to, holding_after_word}

-- the reply to a line, and the structure after it, by the words of the line
abbrev pub replies_by_the_rules : Replying Holding
replies_by_the_rules = record {
  reply_to = λ held word arguments. reply_to held word (words_in arguments);
  holding_after = λ held word arguments. holding_after_word held word (words_in arguments);
}

-- the answer to a line, and the structure after it, as the engine takes them
abbrev pub by_the_rules : Answering Holding
by_the_rules = answering_by replies_by_the_rules

-- the answer of a line
abbrev pub answer_to : Holding → List ℕ → List ℕ
answer_to held line = by_the_rules.answer_to held line

-- the structure after a line
abbrev pub holding_after : Holding → List ℕ → Holding
holding_after held line = by_the_rules.holding_after held line

-- the answers to the lines in order, beginning with this structure
abbrev pub answers_to : Holding → List (List ℕ) → List ℕ
answers_to held lines = answers_of by_the_rules held lines

-- the output is the answers to the lines that a run read, beginning with this structure, depending on how the run ended
abbrev pub WrittenFrom : Holding → Result (Unit {0}) RunError → List (List ℕ) → List ℕ → Type 0
WrittenFrom held result lines text = WrittenOf (answers_to held) result lines text

-- `WrittenFrom` for a run that begins without a structure
abbrev pub WrittenAt : Result (Unit {0}) RunError → List (List ℕ) → List ℕ → Type 0
WrittenAt result lines text = WrittenFrom None result lines text
