-- The answer of an export: a status, and a number if it found something.
use Rattle.std.specs.Prelude.{◌≡◌, ◌⊎◌, ℕ, ◌==◌, Option, Some, None, if◌then◌else◌}
use Rattle.catalogue.specs.declared.answer.Answer.{Answer}
use Rattle.catalogue.specs.declared.answer.Answer.TheVariants.{Found, Absent, Unknown, Refused}
use Rattle.vers_c.specs.declared.answer.VersAnswer.{VersAnswer}
use Rattle.vers_c.specs.declared.status.TheConstants.{ABSENT, DONE, NO_MEMORY, REFUSED, UNKNOWN, VACANT}

-- a number
abbrev pub found : ℕ → VersAnswer
found n = record { status = DONE; value = n }

-- there is no such thing
abbrev pub absent : VersAnswer
absent = record { status = ABSENT; value = 0 }

-- a number, or that there is none
abbrev pub found_or_absent : Option ℕ → VersAnswer
found_or_absent (Some n) = found n
found_or_absent None = absent

-- the handle is empty
abbrev pub vacant : VersAnswer
vacant = record { status = VACANT; value = 0 }

-- the answer of a structure
abbrev pub as_vers_answer : Answer → VersAnswer
as_vers_answer (Found n) = found n
as_vers_answer Absent = absent
as_vers_answer Unknown = record { status = UNKNOWN; value = 0 }
as_vers_answer Refused = record { status = REFUSED; value = 0 }

-- the number of an answer, or another one if the query found nothing
abbrev pub number_or : ℕ → VersAnswer → ℕ
number_or other answer = if answer.status == DONE then answer.value else other

-- the status of a call is this one, or there is no memory for what would be done
abbrev pub IsReportedAs : ℕ → ℕ → Type 0
IsReportedAs wanted status = (status ≡ wanted) ⊎ ((status ≡ NO_MEMORY) × (wanted ≡ DONE))
