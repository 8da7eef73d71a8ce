-- The answer to a query: a number if it found one.
use Rattle.std.specs.Prelude.{ℕ, Bool, false, true, Option, Some, None, if◌then◌else◌}
use Rattle.vers_bits.specs.Bits.{bit_value}
use Rattle.catalogue.specs.declared.answer.Answer.{Answer}
use Rattle.catalogue.specs.declared.answer.Answer.TheVariants.{Found, Absent, Unknown, Refused}

-- a number, or that there is none
abbrev pub found_or_absent : Option ℕ → Answer
found_or_absent (Some n) = Found n
found_or_absent None = Absent

-- a truth value, as 1 or 0
abbrev pub decided : Bool → Answer
decided b = Found (bit_value b)

-- an answer with a precondition, refused if it fails
abbrev pub answer_if : Bool → Answer → Answer
answer_if condition answer = if condition then answer else Refused

-- whether the structure has the query of an answer
abbrev pub is_known : Answer → Bool
is_known Unknown = false
is_known _ = true

-- the number of an answer, or another one if the query found nothing
abbrev pub value_or : ℕ → Answer → ℕ
value_or other (Found n) = n
value_or other _ = other
