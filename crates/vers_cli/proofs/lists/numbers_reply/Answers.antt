use Rattle.vers_cli.proofs.Names.{◌++◌, refl, ap, ◌∙◌, Numbers, YieldsList-from_first}
use Rattle.std.proofs.lemmas.Iterator.Adapters.{items_from_extend}
use Rattle.vers_sorted.specs.Ends.{Walking}
use Rattle.vers_cli.proofs.lists.numbers_reply.Goals as goal

pub returns : goal.returns
returns g c =
    let ran = items_from_extend c.extend.result c.extend.ensures.ran (YieldsList-from_first (λ x. x) (λ (s : Walking _). s.left) c.args.numbers_left.left refl) in
    ap Numbers ((rw c.in_ok-extend.was at ran).0 ∙ ap (λ items. items ++ c.args.numbers_left.left) c.in_ok-numbers.ensures.items)
