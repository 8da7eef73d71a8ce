-- The queries of a text.
use Rattle.std.specs.Prelude.{ℕ, min, length}
use Rattle.text_index.specs.Texts.{Text}
use Rattle.text_index.specs.Sizes.{text_size}
use Rattle.catalogue.specs.declared.answer.Answer.{Answer}
use Rattle.catalogue.specs.declared.query.Query.{Query}
use Rattle.catalogue.specs.declared.query.Query.TheVariants.{Len, HeapSize, Width, Step}
use Rattle.catalogue.specs.declared.answer.Answer.TheVariants.{Found, Unknown}

-- the answer of each query
abbrev pub text_answer : Text → Query → ℕ → ℕ → ℕ → Answer
text_answer text Len a b c = Found (length text.items)
text_answer text Width a b c = Found text.width
text_answer text Step a b c = Found text.step
text_answer text HeapSize a b c = Found (min (text_size text) 18446744073709551615)
text_answer text _ a b c = Unknown
