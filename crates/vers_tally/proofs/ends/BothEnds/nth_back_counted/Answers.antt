use Rattle.vers_tally.proofs.Names.{ap, ended_back, gave_back, Walking}
use Rattle.vers_tally.proofs.ends.BothEnds.nth_back_counted.Goals as goal

pub returns-in_err-i-clause-steps : goal.returns-in_err-i-clause-steps
returns-in_err-i-clause-steps g c =
    ended_back c.args.n (g.S.Source.items c.self.inside.source) c.self.inside.span c.nth_back.new.self (ap (λ (w : Walking _). w.left) c.self.view_is) c.in_err-i.ensures c.from_residual.ensures

pub returns-clause-steps : goal.returns-clause-steps
returns-clause-steps g c =
    rw c.item_at_back.ensures.same_items
    (gave_back c.args.n (g.S.Source.items c.self.inside.source) c.self.inside.span c.nth_back.new.self (ap (λ (w : Walking _). w.left) c.self.view_is) c.self.invariant.0 c.in_ok-i.ensures c.item_at_back.ensures.value)
