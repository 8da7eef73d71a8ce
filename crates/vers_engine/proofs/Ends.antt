-- How a run ends.
use Rattle.vers_engine.proofs.Names.{ℕ, List, ◌++◌, Option, Ok, Err, Result, refl, sym, inl, inr, IsAtEnd, RunError, Read, Write, Memory, lines_of, Answering, answers_of, AreLinesRead, WrittenOf, StandsAt, TakesOrFails, FinishesOrFails}
use Rattle.vers_engine.proofs.Steps.{whole_lines-IsSplit}

-- at the end of the input
pub ends : {H : Type 0} (by : Answering H) (start : H) (r : Result (Unit {0}) RunError) (left : Option (List ℕ)) (h : H) (p text read written : List ℕ)
    → IsAtEnd left → StandsAt by start read written h p → FinishesOrFails by r h p text
    → AreLinesRead r left read (lines_of read) × WrittenOf (answers_of by start) r (lines_of read) (written ++ text)
ends by start (Ok u) left h p text read written e s f = ((e, refl), f start read written s)
ends by start (Err Read) left h p text read written e s f = absurd (f start read written s)
ends by start (Err Memory) left h p text read written e s f = (inr (e, refl), f start read written s)
ends by start (Err Write) left h p text read written e s f = (inr (e, refl), f start read written s)

-- at a fault between two reads
pub breaks : {H : Type 0} (by : Answering H) (start : H) (e : RunError) (left : Option (List ℕ)) (h : H) (p bytes text : List ℕ) (new : H) (rest read written : List ℕ)
    → StandsAt by start read written h p → TakesOrFails by (Err e) h p bytes text new rest
    → (lines : List (List ℕ)) × AreLinesRead (Err e) left (read ++ bytes) lines × WrittenOf (answers_of by start) (Err e) lines (written ++ text)
breaks by start Read left h p bytes text new rest read written s f = absurd ((f start read written s).3)
breaks by start Memory left h p bytes text new rest read written s f =
    let w = f start read written s in (w.0, inl (sym (whole_lines-IsSplit _ w.0 w.1 w.2)), w.3)
breaks by start Write left h p bytes text new rest read written s f =
    let w = f start read written s in (w.0, inl (sym (whole_lines-IsSplit _ w.0 w.1 w.2)), w.3)
