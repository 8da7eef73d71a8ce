use Rattle.vers_rank.proofs.Names.{◌∙◌, same_bits-Decides}
use Rattle.vers_rank.proofs.fast_rs_vec.equality.RsVecPartialEq.eq.Goals as goal

pub returns-clause-exact : goal.returns-clause-exact
returns-clause-exact g c =
    let same = rw (c.as_bit_vec.ensures ∙ c.self.view_is, c.as_bit_vec-2.ensures ∙ c.other.view_is) at c.eq.ensures in
    rw same (same_bits-Decides c.args.self.now c.args.other.now)
