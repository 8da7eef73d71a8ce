use Rattle.std.proofs.Common.{refl, sym, ◌∙◌}
use Rattle.inverted.proofs.NumberLists.{reason_is}
use Rattle.inverted.proofs.numbers.refusal_of_numbers.Goals as goal

pub returns-then-is_some : goal.returns-then-is_some
returns-then-is_some g c =
    sym (reason_is c.args.terms c.args.universe c.in-Some.end c.args.numbers.now c.successor.result _ c.in-Some.ensures.0 c.in-Some.ensures.1 c.successor.ensures.value refl
    ∙ rw (sym c.is_some.ensures ∙ c.if-is_some.true) refl)

pub returns-then-not-do_rise : goal.returns-then-not-do_rise
returns-then-not-do_rise g c =
    sym (reason_is c.args.terms c.args.universe c.in-Some.end c.args.numbers.now c.successor.result c.do_rise.result c.in-Some.ensures.0 c.in-Some.ensures.1 c.successor.ensures.value c.do_rise.ensures
    ∙ rw (sym c.is_some.ensures ∙ c.if-is_some.false, c.if-not-do_rise.true) refl)

pub returns : goal.returns
returns g c =
    sym (reason_is c.args.terms c.args.universe c.in-Some.end c.args.numbers.now c.successor.result c.do_rise.result c.in-Some.ensures.0 c.in-Some.ensures.1 c.successor.ensures.value c.do_rise.ensures
    ∙ rw (sym c.is_some.ensures ∙ c.if-is_some.false, c.if-not-do_rise.false) refl)
