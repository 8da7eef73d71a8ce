-- The state of a session: what was read and written so far. These words serve the engine's own
-- functions, and say step by step what `answer_lines` ensures as a whole. In them `by` says how lines
-- are answered, and `start` is the structure before the first line.
use Rattle.std.specs.Prelude.{◌≡◌, ℕ, ◌++◌, ◌==◌, All, Bool, true, false, List, [], ◌∷◌, take, Result, Ok, Err}
use Rattle.vers_engine.specs.declared.engine.RunError.{RunError}
use Rattle.vers_engine.specs.declared.engine.RunError.TheVariants.{Read, Write, Memory}
use Rattle.vers_engine.specs.Lines.{lines_of}
use Rattle.vers_engine.specs.Answers.{Answering, answers_of, held_after, AnswersFirst, BeginsAnswer}

-- each part, and the byte after it
abbrev pub ended_by : ℕ → List (List ℕ) → List ℕ
ended_by byte [] = []
ended_by byte (part ∷ parts) = part ++ byte ∷ ended_by byte parts

-- the text is the parts, each ended by the byte, and then the rest, and none of them has that byte
pub record IsSplit (byte : ℕ) (text : List ℕ) (parts : List (List ℕ)) (rest : List ℕ) : Type 0 where
  pub joined : text ≡ ended_by byte parts ++ rest
  pub parts_lack : All (λ part. All (λ b. (b == byte) ≡ false) part) parts
  pub rest_lacks : All (λ b. (b == byte) ≡ false) rest

-- every whole line that was read is answered by these answers, this is the structure after them, and the
-- pending bytes came after the last of them
pub record StandsAt {H : Type 0} (by : Answering H) (start : H) (read answers : List ℕ) (held : H) (pending : List ℕ) : Type 0 where
  pub lines : List (List ℕ)
  pub split : IsSplit 10 read lines pending
  pub answered : answers ≡ answers_of by start lines
  pub holds : held ≡ held_after by start lines

-- what was written of the answers of lines at an error that is not the reader's
abbrev pub FailsAt : {H : Type 0} → Answering H → H → RunError → List (List ℕ) → List ℕ → Type 0
FailsAt by start Read lines written = ⊥
FailsAt by start Memory lines written = AnswersFirst (answers_of by start) lines written
FailsAt by start Write lines written = BeginsAnswer (answers_of by start) lines written

-- the text answers one line, and the structure is then `new`, or there was no memory for it
abbrev pub AnswersOrStays : {H E : Type 0} → Answering H → Result (Unit {0}) E → H → List ℕ → List ℕ → H → Type 0
AnswersOrStays by (Ok u) held line text new = (text ≡ by.answer_to held line) × (new ≡ by.holding_after held line)
AnswersOrStays by (Err e) held line text new = text ≡ []

-- a session took the bytes and answered by the text, or met a fault on the way
abbrev pub TakesOrFails : {H : Type 0} → Answering H → Result (Unit {0}) RunError → H → List ℕ → List ℕ → List ℕ → H → List ℕ → Type 0
TakesOrFails {H} by (Ok u) held pending bytes text new rest =
    (start : H) (read answers : List ℕ) → StandsAt by start read answers held pending
    → StandsAt by start (read ++ bytes) (answers ++ text) new rest
TakesOrFails {H} by (Err e) held pending bytes text new rest =
    (start : H) (read answers : List ℕ) → StandsAt by start read answers held pending
    → (lines : List (List ℕ)) × (after : List ℕ)
    × IsSplit 10 (read ++ bytes) lines after × FailsAt by start e lines (answers ++ text)

-- a session took n of the bytes and answered with the text, or an allocation failed
abbrev pub TakesSome : {H E : Type 0} → Answering H → Result ℕ E → H → List ℕ → List ℕ → List ℕ → H → List ℕ → Type 0
TakesSome by (Ok taken) held pending bytes text new rest = TakesOrFails by (Ok tt) held pending (take taken bytes) text new rest
TakesSome by (Err e) held pending bytes text new rest = TakesOrFails by (Err Memory) held pending bytes text new rest

-- at the end of the input the text answers what was pending, or an error cut it off
abbrev pub FinishesOrFails : {H : Type 0} → Answering H → Result (Unit {0}) RunError → H → List ℕ → List ℕ → Type 0
FinishesOrFails {H} by (Ok u) held pending text =
    (start : H) (read answers : List ℕ) → StandsAt by start read answers held pending → answers ++ text ≡ answers_of by start (lines_of read)
FinishesOrFails {H} by (Err e) held pending text =
    (start : H) (read answers : List ℕ) → StandsAt by start read answers held pending → FailsAt by start e (lines_of read) (answers ++ text)

-- the writer has failed at a fault of writing, and is as before otherwise
abbrev pub FailsAlong : Result (Unit {0}) RunError → Bool → Bool → Type 0
FailsAlong (Ok u) old new = new ≡ old
FailsAlong (Err Read) old new = ⊥
FailsAlong (Err Memory) old new = new ≡ old
FailsAlong (Err Write) old new = new ≡ true
