use Rattle.vers_words.proofs.Imports.{Some, refl, sym, ap, ◌∙◌, append-nil}
use Rattle.vers_words.proofs.Numbers.{numbers_then-none, numbers_then-push}
use Rattle.vers_words.proofs.arguments.all_numbers.Goals as goal

pub loop-word-init : goal.loop-word-init
loop-word-init g c = rw c.in_ok-numbers.ensures.items (sym (numbers_then-none _))

pub returns-in_default-number : goal.returns-in_default-number
returns-in_default-number g c = sym (c.loop-word.invariant ∙ rw (c.in-Some-split_first_word.ensures.words, ← c.number.ensures, c.in_default-number.is) refl)

pub returns : goal.returns
returns g c = sym (c.loop-word.invariant ∙ rw c.in_default-split_first_word.ensures.words (ap Some (append-nil _)))

pub loop-word-preserved : goal.loop-word-preserved
loop-word-preserved g c =
    c.loop-word.invariant
    ∙ rw (c.in-Some-split_first_word.ensures.words, ← c.number.ensures, c.in-Some-number.is, c.in_ok-push.ensures.items) (numbers_then-push _ _ _)
