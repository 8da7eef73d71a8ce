use Rattle.vers_cli.proofs.Names.{sym, ◌∙◌, arith, words_in}
use Rattle.vers_cli.proofs.LineIndexes.{even_parts, odd_parts}
use Rattle.vers_cli.proofs.index.parts_of.Goals as goal

pub returns-then-count-eq0 : goal.returns-then-count-eq0
returns-then-count-eq0 c =
    rw (c.in_ok-first.ensures.words, c.in_ok-second.ensures.words)
    (even_parts c.in_ok-first.first.now c.in_ok-second.second.now (words_in c.in_ok-second.rest.now) c.in_ok-terms.terms c.in_ok-universe.universe (sym c.number.ensures ∙ c.in_ok-terms.was) (sym c.number-2.ensures ∙ c.in_ok-universe.was)
    c.in_ok-count.count (sym c.in_ok-count.was ∙ c.count_numbers.ensures) (omega (arith, c.if-count-eq0.true)))

pub returns-else-count-eq0 : goal.returns-else-count-eq0
returns-else-count-eq0 c =
    rw (c.in_ok-first.ensures.words, c.in_ok-second.ensures.words)
    (odd_parts c.in_ok-first.first.now c.in_ok-second.second.now (words_in c.in_ok-second.rest.now) c.in_ok-terms.terms c.in_ok-universe.universe (sym c.number.ensures ∙ c.in_ok-terms.was) (sym c.number-2.ensures ∙ c.in_ok-universe.was)
    c.in_ok-count.count (sym c.in_ok-count.was ∙ c.count_numbers.ensures) (λ even. omega (arith, even, c.if-count-eq0.false)))
