use Rattle.wavelet_tree.proofs.Names.{◌<◌, ap, subst, arith, get_or, pow_pos, CountsWithin}
use Rattle.wavelet_tree.proofs.Rebuilding.{starts_counted, starts_fit}
use Rattle.wavelet_tree.proofs.rebuild.are_starts.Goals.{then-starts-limit-via-then-starts-limit, then-starts-limit-via-else-starts-limit+then-starts-ne0, then-starts-limit-via-else-starts-limit+else-starts-ne0+then-starts-limit-gt-MOST_ELEMENTS}
use Rattle.wavelet_tree.proofs.rebuild.are_starts.Goals as goal

pub returns-then-starts-limit-clause-no : goal.returns-then-starts-limit-clause-no
returns-then-starts-limit-clause-no c = λ same symbols width bits has.
    let fit = starts_fit symbols c.args.starts.now bits c.args.width width has in
    let limit = c.symbol_limit-limit.ensures in
    let last = ap (λ n. get_or c.args.starts.now n 0) limit in
    elim c.then-starts-limit.branch [
      | then-starts-limit-via-then-starts-limit w ↦ omega (arith, fit.long, limit, w.if-starts-limit.true)
      | then-starts-limit-via-else-starts-limit+then-starts-ne0 w ↦ omega (arith, fit.first, w.if-starts-ne0.true)
      | then-starts-limit-via-else-starts-limit+else-starts-ne0+then-starts-limit-gt-MOST_ELEMENTS w ↦ omega (arith, fit.few, last, w.if-starts-limit-gt-MOST_ELEMENTS.true)
    ]

pub returns-clause-yes : goal.returns-clause-yes
returns-clause-yes c = λ yes.
    let limit = c.symbol_limit-limit.ensures in
    let some : 0 < c.symbol_limit-limit.result = omega (arith, limit, pow_pos c.args.width) in
    let made = starts_counted c.args.starts.now c.symbol_limit-limit.result some c.if-starts-limit.false c.if-starts-ne0.false c.if-starts-limit-gt-MOST_ELEMENTS.false (c.ascend.ensures.yes yes) in
    (made.0, subst (λ n. CountsWithin c.args.starts.now 0 n made.0) limit made.1)

pub returns-clause-no : goal.returns-clause-no
returns-clause-no c = λ no symbols width bits has.
    let fit = starts_fit symbols c.args.starts.now bits c.args.width width has in
    let found = c.ascend.ensures.no no in
    omega (arith, fit.up found.0 found.1, found.2)
