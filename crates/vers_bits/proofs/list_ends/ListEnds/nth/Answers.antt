use Rattle.vers_bits.proofs.BothEnds.{ended, gave}
use Rattle.vers_bits.proofs.list_ends.ListEnds.nth.Goals as goal

pub returns-in_err-i : goal.returns-in_err-i
returns-in_err-i g c =
    ended c.args.n (g.L.Listed.items c.self.inside.list) c.self.inside.span c.nth.new.self c.self.view_is c.in_err-i.ensures c.from_residual.ensures

pub returns : goal.returns
returns g c =
    gave c.args.n (g.L.Listed.items c.self.inside.list) c.self.inside.span c.nth.new.self c.self.view_is c.self.invariant c.in_ok-i.ensures c.item_at.ensures
