use Rattle.vers_tally.proofs.Names.{ap, Walking}
use Rattle.vers_tally.proofs.Made.{made_none, made}
use Rattle.vers_tally.proofs.made_ends.MadeEnds.nth_counted.Goals as goal

pub returns-in_err-i-clause-steps : goal.returns-in_err-i-clause-steps
returns-in_err-i-clause-steps g c =
    made_none c.args.n (g.M.Maker.items c.self.inside.maker) c.self.inside.span c.nth.new.self (ap (λ (w : Walking _). w.left) c.self.view_is) c.in_err-i.ensures c.from_residual.ensures

pub returns-clause-steps : goal.returns-clause-steps
returns-clause-steps g c =
    rw c.make_at.ensures.same_items
    (made c.args.n (g.M.Maker.items c.self.inside.maker) c.self.inside.span c.nth.new.self (ap (λ (w : Walking _). w.left) c.self.view_is) c.self.invariant c.in_ok-i.ensures c.make_at.ensures.value)
