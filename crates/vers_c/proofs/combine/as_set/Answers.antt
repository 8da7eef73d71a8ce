use Rattle.vers_c.proofs.Names.{arith}
use Rattle.vers_c.proofs.NumberSets.{set_is}
use Rattle.vers_c.proofs.combine.as_set.Goals as goal

pub returns : goal.returns
returns c has set = set_is c.args.list (omega (arith, c.ends.ensures.last, c.ends.type_inv.1.1)) has set
