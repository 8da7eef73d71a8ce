use Rattle.vers_c.proofs.Names.{asked}
use Rattle.std.proofs.Common.{◌∙◌}
use Rattle.vers_c.proofs.batch.ask_group.Goals as goal

pub returns : goal.returns
returns g c =
    c.store_each.ensures (λ row. asked (g.B.Batch.answers c.args.batch c.args.structure.now) (g.R.Row.ask c.args.b c.args.c row)) (c.ask_all.ensures ∙ c.make_each.ensures c.args.structure.now)
