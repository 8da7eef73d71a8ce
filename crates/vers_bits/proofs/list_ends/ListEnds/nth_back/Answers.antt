use Rattle.vers_bits.proofs.BothEnds.{ended_back, gave_back}
use Rattle.vers_bits.proofs.list_ends.ListEnds.nth_back.Goals as goal

pub returns-in_err-i : goal.returns-in_err-i
returns-in_err-i g c =
    ended_back c.args.n (g.L.Listed.items c.self.inside.list) c.self.inside.span c.nth_back.new.self c.self.view_is c.in_err-i.ensures c.from_residual.ensures

pub returns : goal.returns
returns g c =
    gave_back c.args.n (g.L.Listed.items c.self.inside.list) c.self.inside.span c.nth_back.new.self c.self.view_is c.self.invariant c.in_ok-i.ensures c.item_at.ensures
