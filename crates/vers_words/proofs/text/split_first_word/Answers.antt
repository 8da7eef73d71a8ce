use Rattle.vers_words.proofs.Imports.{◌≡◌, ◌+◌, ◌<◌, true, length, drop, get_or, Some, sym, ◌∙◌, arith, position, take_rest, length-drop, get_or-drop, position-Some}
use Rattle.vers_words.proofs.Words.{is_other, first_word-from, words_in-spaces, words_in-from, words_in-first}
use Rattle.vers_words.proofs.text.split_first_word.Goals as goal

pub returns-in_err-from_word-clause-words : goal.returns-in_err-from_word-clause-words
returns-in_err-from_word-clause-words c = grind (arith, words_in-spaces)

pub returns-clause-words : goal.returns-clause-words
returns-clause-words c =
    let t = c.args.text.now in
    let start = c.in_ok-from_word.field-0 in
    let from : position is_other t ≡ Some start = sym c.first_of_word.ensures ∙ c.in_ok-from_word.was in
    let here = position-Some is_other t start 0 from in
    let some : 0 < length (drop start t) = omega (arith, length-drop start t, here.0) in
    let same : start + 0 ≡ start = omega arith in
    let other : is_other (get_or (drop start t) 0 0) ≡ true = rw (get_or-drop start t 0 0, same) here.1 in
    let found = sym (rw take_rest at c.position_of.ensures) in
    let len = rw take_rest at c.unwrap_or-len.ensures in
    rw (take_rest, take_rest) (words_in-from t start from ∙ (words_in-first (drop start t) _ _ found len some other).1)

pub returns-clause-parts : goal.returns-clause-parts
returns-clause-parts c =
    let t = c.args.text.now in
    let from : position is_other t ≡ Some c.in_ok-from_word.field-0 = sym c.first_of_word.ensures ∙ c.in_ok-from_word.was in
    let found = sym (rw take_rest at c.position_of.ensures) in
    let len = rw take_rest at c.unwrap_or-len.ensures in
    rw (take_rest, take_rest) (first_word-from t _ _ _ from found len)
