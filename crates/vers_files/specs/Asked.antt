-- The answers of a run that begins with a structure.
use Rattle.std.specs.Prelude.{ℕ, List, Option, Result}
use Rattle.std.specs.Io.KnownBytes.{Appends, Consumes}
use Rattle.vers_engine.specs.declared.engine.RunError.{RunError}
use Rattle.vers_engine.specs.Answers.{Answering, answers_of, AreLinesRead, WrittenOf}

-- what a run read and wrote, depending on how it ended: the answers to the lines that it read, beginning with this structure
abbrev pub AnswersFrom : {H : Type 0} → Answering H → H → Result (Unit {0}) RunError → (left rest : Option (List ℕ)) → (old new : Option (List ℕ)) → Type 0
AnswersFrom by held ended left rest old new =
    (read : List ℕ) × (written : List ℕ) × (lines : List (List ℕ))
    × Consumes left rest read × Appends old new written × AreLinesRead ended rest read lines × WrittenOf (answers_of by held) ended lines written
