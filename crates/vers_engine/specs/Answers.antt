-- Answer texts: what is written for the lines of an input.
use Rattle.std.specs.Prelude.{◌≡◌, ℕ, ◌++◌, List, [], ◌∷◌, Option, Result, Ok, Err, ◌⊎◌, codes}
use Rattle.std.specs.Io.KnownBytes.{IsAtEnd}
use Rattle.vers_engine.specs.declared.engine.RunError.{RunError}
use Rattle.vers_engine.specs.declared.engine.RunError.TheVariants.{Read, Write, Memory}
use Rattle.vers_engine.specs.Lines.{whole_lines, lines_of}

-- how lines are answered: the answer to a line, and the structure after it, by the structure before it
pub record Answering (H : Type 0) : Type 0 where
  pub answer_to : H → List ℕ → List ℕ
  pub holding_after : H → List ℕ → H

-- the structure after the lines
abbrev pub held_after : {H : Type 0} → Answering H → H → List (List ℕ) → H
held_after by held [] = held
held_after by held (line ∷ lines) = held_after by (by.holding_after held line) lines

-- the answers to the lines, in order, beginning with this structure
abbrev pub answers_of : {H : Type 0} → Answering H → H → List (List ℕ) → List ℕ
answers_of by held [] = []
answers_of by held (line ∷ lines) = by.answer_to held line ++ answers_of by (by.holding_after held line) lines

-- the text answers a first part of the lines
abbrev pub AnswersFirst : (List (List ℕ) → List ℕ) → List (List ℕ) → List ℕ → Type 0
AnswersFirst answers lines text =
    (first : List (List ℕ)) × (others : List (List ℕ)) × (lines ≡ first ++ others) × (text ≡ answers first)

-- the text is a beginning of the answers of the lines
abbrev pub BeginsAnswer : (List (List ℕ) → List ℕ) → List (List ℕ) → List ℕ → Type 0
BeginsAnswer answers lines text = (rest : List ℕ) × (text ++ rest ≡ answers lines)

-- the output is the answers to the lines that a run read, depending on how the run ended
abbrev pub WrittenOf : (List (List ℕ) → List ℕ) → Result (Unit {0}) RunError → List (List ℕ) → List ℕ → Type 0
WrittenOf answers (Ok u) lines text = text ≡ answers lines
WrittenOf answers (Err Read) lines text = text ≡ answers lines
WrittenOf answers (Err Memory) lines text = AnswersFirst answers lines text
WrittenOf answers (Err Write) lines text = BeginsAnswer answers lines text

-- the lines that a run read: those of the whole input after `Ok`; after an error the complete lines of what it read, or those of the whole input if it read all
abbrev pub AreLinesRead : Result (Unit {0}) RunError → Option (List ℕ) → List ℕ → List (List ℕ) → Type 0
AreLinesRead (Ok u) left read lines = IsAtEnd left × (lines ≡ lines_of read)
AreLinesRead (Err Read) left read lines = lines ≡ whole_lines read
AreLinesRead (Err Memory) left read lines = (lines ≡ whole_lines read) ⊎ (IsAtEnd left × (lines ≡ lines_of read))
AreLinesRead (Err Write) left read lines = (lines ≡ whole_lines read) ⊎ (IsAtEnd left × (lines ≡ lines_of read))

-- the line that is printed for an error
abbrev pub fault_text : RunError → List ℕ
fault_text Read = codes "read failed"
fault_text Write = codes "write failed"
fault_text Memory = codes "out of memory"
