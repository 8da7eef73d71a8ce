-- The queries of many numbers.
use Rattle.std.specs.Prelude.{ℕ}
use Rattle.catalogue.specs.declared.answer.Answer.{Answer}
use Rattle.vers_c.specs.declared.asked.Ask.{Ask}
use Rattle.catalogue.specs.Answers.{value_or}

-- the answer to a number and two more; `other` if there is none
abbrev pub answered : (ℕ → ℕ → ℕ → Answer) → ℕ → ℕ → ℕ → ℕ → ℕ
answered answers other b c a = value_or other (answers a b c)

-- three numbers, the first of which is replaced by the answer to them
abbrev pub row_answered : (ℕ → ℕ → ℕ → Answer) → ℕ → Ask → Ask
row_answered answers other ask = record { a = answered answers other ask.b ask.c ask.a; b = ask.b; c = ask.c }

-- the answer to three numbers
abbrev pub asked : (ℕ → ℕ → ℕ → Answer) → Ask → Answer
asked answers ask = answers ask.a ask.b ask.c

-- a row with the answer to its numbers: `ask` selects the numbers and `store` stores the answer
abbrev pub answered_row : {R : Type 0} → (ℕ → ℕ → R → Ask) → (R → ℕ → R) → (ℕ → ℕ → ℕ → Answer) → ℕ → ℕ → ℕ → R → R
answered_row ask store answers other b c row = store row (value_or other (asked answers (ask b c row)))
