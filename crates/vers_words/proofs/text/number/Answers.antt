use Rattle.vers_words.proofs.Imports.{◌≡◌, take, ap, sym, ◌∙◌, arith, Some, refl, eqb-true, lt-ltb, nil_from_length, take_all, is_ascii_digit, digits_value, number_of, ints}
use Rattle.std.proofs.lemmas.List.Folds.{list_all_at, list_all_more}
use Rattle.vers_words.proofs.Numbers.{large_at, digits_value-digit, number_of-other, number_of-large}
use Rattle.vers_words.proofs.text.number.Goals as goal

pub returns-then-is_empty : goal.returns-then-is_empty
unfolding number_of
returns-then-is_empty c = rw (nil_from_length _ (eqb-true _ 0 (sym c.if-is_empty.ensures))) refl

pub returns-then-not-is_ascii_digit : goal.returns-then-not-is_ascii_digit
returns-then-not-is_ascii_digit c = grind (arith, number_of-other c.args.word.now (list_all_at is_ascii_digit c.args.word.now c.loop-byte.byte-index 0 c.loop-byte-test.true (sym c.if-not-is_ascii_digit.ensures.value)))

pub returns-in_err-checked_mul : goal.returns-in_err-checked_mul
returns-in_err-checked_mul c = grind (arith, number_of-large, large_at)

pub returns-in_err-value : goal.returns-in_err-value
returns-in_err-value c = grind (arith, number_of-large, large_at)

pub returns : goal.returns
unfolding number_of
returns c =
    let word = c.args.word.now in
    let all : take c.loop-byte.byte-index word ≡ word = take_all c.loop-byte.byte-index word c.loop-byte-test.false in
    let value : c.loop-byte.value ≡ digits_value 10 word = c.loop-byte.invariant.value ∙ ap (digits_value 10) all in
    ap Some value ∙ sym (grind (arith, ints, lt-ltb))

pub loop-byte-preserved : goal.loop-byte-preserved
loop-byte-preserved c =
    let word = c.args.word.now in
    let i = c.loop-byte.byte-index in
    let digit = sym c.if-not-is_ascii_digit.ensures.value in
    let more = digits_value-digit word i c.loop-byte-test.true digit in
    record {
      value = omega (arith, more, c.loop-byte.invariant.value, c.in_ok-checked_mul.ensures, c.from.ensures, c.in_ok-value.ensures);
      digits = list_all_more is_ascii_digit word i 0 c.loop-byte-test.true ∙ rw (c.loop-byte.invariant.digits, digit) refl;
      fits = omega (arith, c.in_ok-value.ensures);
    }
