use Rattle.std.proofs.Common.{◌≡◌, ◌∙◌, ◌-◌, ap, Some, arith, length, rules, slice_get, sym, unwrap_or, ℕ}
use Rattle.vers_sorted.specs.Sorted.{least_not_below}
use Rattle.sets.proofs.Lists.{below_rises, last_passes, last_read, last_step, next_element, next_passes, no_next}
use Rattle.sets.proofs.cursor.step_to.Goals as goal

pub returns-in_default-clause-value : goal.returns-in_default-clause-value
returns-in_default-clause-value g c = λ at is. no_next c.args.list.now at c.requires (sym is ∙ c.in_default.is)

pub returns-in_default-clause-rises : goal.returns-in_default-clause-rises
returns-in_default-clause-rises g c = below_rises c.args.list.now

pub returns-then-element-lt18446744073709551615-clause-value : goal.returns-then-element-lt18446744073709551615-clause-value
returns-then-element-lt18446744073709551615-clause-value g c = λ at is.
    next_element c.args.list.now at c.in-Some.element c.requires (sym c.in-Some.is ∙ is) (omega (arith, c.if-element-lt18446744073709551615.true)) (λ is_most. absurd (omega (arith, is_most, c.if-element-lt18446744073709551615.true)))

pub returns-then-element-lt18446744073709551615-clause-passes : goal.returns-then-element-lt18446744073709551615-clause-passes
returns-then-element-lt18446744073709551615-clause-passes g c = λ at is. next_passes c.args.list.now at c.in-Some.element c.requires (sym c.in-Some.is ∙ is)

pub returns-then-element-lt18446744073709551615-clause-rises : goal.returns-then-element-lt18446744073709551615-clause-rises
returns-then-element-lt18446744073709551615-clause-rises g c = below_rises c.args.list.now

pub returns : goal.returns
returns g c =
    let list = c.args.list.now in
    let element = c.in-Some.element in
    let last = c.unwrap_or.result in
    let at_end : (at : ℕ) → c.args.next ≡ least_not_below list at → slice_get list (length list - 1) ≡ Some last = λ at is. last_read list element last at c.requires (sym c.in-Some.is ∙ is) (c.unwrap_or.ensures ∙ ap (λ o. unwrap_or o element) (c.get_counted-last.ensures.value ∙ ap (slice_get list) (c.saturating_sub.ensures ∙ ap (λ n. n - 1) c.len.ensures.value))) in
    record {
      value = λ at is. last_step list element last at c.requires (sym c.in-Some.is ∙ is) c.if-element-lt18446744073709551615.false (at_end at is) (omega (arith, c.unwrap_or.type_inv));
      passes = λ at is. last_passes list element last at c.requires (sym c.in-Some.is ∙ is) c.if-element-lt18446744073709551615.false (at_end at is) (omega (arith, c.unwrap_or.type_inv));
      rises = below_rises list;
      adds = search rules;
    }
