use Rattle.vers_tally.proofs.Names.{subst, refl, all_items}
use Rattle.vers_tally.proofs.ends.BothEnds.new.Goals as goal

pub returns-clause-in_order : goal.returns-clause-in_order
returns-clause-in_order g c =
    subst g.S.Source.in_order (all_items (g.S.Source.items c.args.source) (record { from = 0; to = c.count_items.result }) refl c.count_items.ensures.value)
    (c.count_items.ensures.in_order (record { from = 0; to = c.count_items.result }))
