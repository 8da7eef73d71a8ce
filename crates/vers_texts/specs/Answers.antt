-- Answer texts: what the program writes for the lines of an input.
use Rattle.std.specs.Prelude.{ℕ, List, Option, Result}
use Rattle.vers_engine.specs.declared.engine.RunError.{RunError}
use Rattle.vers_engine.specs.Answers.{Answering, answers_of, WrittenOf}
use Rattle.vers_engine.specs.Replies.{answering_by}
use Rattle.vers_texts.specs.Rules.{replies_by_the_rules}

-- the answer to a line, and the text after it, as the engine takes them
abbrev pub by_the_rules : Answering (Option (List ℕ))
by_the_rules = answering_by replies_by_the_rules

-- the answers to the lines in order, beginning with this text
abbrev pub answers_to : Option (List ℕ) → List (List ℕ) → List ℕ
answers_to held lines = answers_of by_the_rules held lines

-- the output is the answers to the lines that a run read, beginning with this text, depending on how the run ended
abbrev pub WrittenFrom : Option (List ℕ) → Result (Unit {0}) RunError → List (List ℕ) → List ℕ → Type 0
WrittenFrom held result lines text = WrittenOf (answers_to held) result lines text
