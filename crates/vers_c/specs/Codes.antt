-- The queries of a handle's structure, by their codes.
use Rattle.std.specs.Prelude.{ℕ, Option, Some, None, slice_get, if◌then◌else◌}
use Rattle.catalogue.specs.Answers.{is_known}
use Rattle.catalogue.specs.Structures.{Content, answer}
use Rattle.catalogue.specs.declared.answer.Answer.{Answer}
use Rattle.catalogue.specs.declared.answer.Answer.TheVariants.{Unknown}
use Rattle.catalogue.specs.declared.query.Query.{Query}
use Rattle.catalogue.specs.declared.query.TheConstants.{QUERIES}
use Rattle.vers_c.specs.declared.answer.VersAnswer.{VersAnswer}
use Rattle.vers_c.specs.Answers.{as_vers_answer, vacant}
use Rattle.vers_c.specs.declared.status.TheConstants.{DONE, UNKNOWN, VACANT}

-- the query of a code, which is its index in the table, unless there is none
abbrev pub query_of : ℕ → Option Query
query_of code = slice_get QUERIES code

-- a query, if there is one
abbrev pub answer_if_any : Content → Option Query → ℕ → ℕ → ℕ → Answer
answer_if_any held None a b c = Unknown
answer_if_any held (Some query) a b c = answer held query a b c

-- the query of a code
abbrev pub coded_answer : Content → ℕ → ℕ → ℕ → ℕ → Answer
coded_answer held code a b c = answer_if_any held (query_of code) a b c

-- the same for a handle, which may be empty
abbrev pub contents_answer : Option Content → ℕ → ℕ → ℕ → ℕ → VersAnswer
contents_answer None code a b c = vacant
contents_answer (Some held) code a b c = as_vers_answer (coded_answer held code a b c)

-- a query of a handle's structure
abbrev pub contents_asked : Option Content → Query → ℕ → ℕ → ℕ → VersAnswer
contents_asked None query a b c = vacant
contents_asked (Some held) query a b c = as_vers_answer (answer held query a b c)

-- the answers of a batch: an empty handle has no query
abbrev pub batch_answer : Option Content → ℕ → ℕ → ℕ → ℕ → Answer
batch_answer None code a b c = Unknown
batch_answer (Some held) code a b c = coded_answer held code a b c

-- the status of a batch: whether the structure has such a query
abbrev pub batch_status : Content → ℕ → ℕ
batch_status held code = if is_known (coded_answer held code 0 0 0) then DONE else UNKNOWN

-- the same for a handle, which may be empty
abbrev pub contents_status : Option Content → ℕ → ℕ
contents_status None code = VACANT
contents_status (Some held) code = batch_status held code
