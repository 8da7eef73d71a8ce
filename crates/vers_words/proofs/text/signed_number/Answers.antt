use Rattle.vers_words.proofs.Imports.{sym, ◌∙◌, arith, ints, signed_number_of, nil_from_length}
use Rattle.vers_words.proofs.Signed.{plus_from, minus_from, signed_of-minus, signed_of-other}
use Rattle.vers_words.proofs.text.signed_number.Goals as goal

pub returns-in_err-first : goal.returns-in_err-first
unfolding signed_number_of
returns-in_err-first c = c.from_residual.ensures ∙ sym (grind (arith, ints, nil_from_length))

pub returns-in_err-number : goal.returns-in_err-number
returns-in_err-number c = grind (arith, signed_of-minus)

pub returns-in_err-number-2 : goal.returns-in_err-number-2
returns-in_err-number-2 c = grind (arith, signed_of-other)

pub returns-in_ok-number : goal.returns-in_ok-number
returns-in_ok-number c = grind (arith, minus_from, signed_of-minus)

pub returns-in_ok-number-2 : goal.returns-in_ok-number-2
returns-in_ok-number-2 c = grind (arith, plus_from, signed_of-other)
