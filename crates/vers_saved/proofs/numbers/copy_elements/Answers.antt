use Rattle.vers_saved.proofs.Names.{◌+◌, arith, rules, length-append}
use Rattle.vers_saved.proofs.Copies.{both_word, both_past, walked_on}
use Rattle.vers_saved.proofs.numbers.copy_elements.Goals as goal

pub given_or-requires-clause-some : goal.given_or-requires-clause-some
given_or-requires-clause-some g c = λ none.
    omega (arith, c.len-count.ensures.value, both_past c.args.elements.left (c.args.from + c.loop-k.k) c.loop-k.invariant.left c.next.ensures.steps.given none)

pub given_or-requires-clause-within : goal.given_or-requires-clause-within
given_or-requires-clause-within g c = grind (arith, length-append)

pub loop-k-preserved : goal.loop-k-preserved
loop-k-preserved g c =
    let word = both_word c.args.elements.left c.args.others.now (c.args.from + c.loop-k.k) c.loop-k.invariant.left c.len-count.ensures.value
    c.next.ensures.steps.given c.given_or.ensures in
    search (rules, word, walked_on c.args.elements.left c.args.from c.loop-k.k c.loop-k.invariant.left)
