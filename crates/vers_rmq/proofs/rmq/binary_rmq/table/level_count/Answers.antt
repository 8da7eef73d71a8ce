use Rattle.vers_rmq.proofs.Names.{arith}
use Rattle.vers_rmq.proofs.Logs.{levels_are, few_levels}
use Rattle.vers_rmq.proofs.rmq.binary_rmq.table.level_count.Goals as goal

pub returns-else-n-lt2-clause-few : goal.returns-else-n-lt2-clause-few
returns-else-n-lt2-clause-few c =
    omega (arith, levels_are c.args.n c.log2.result c.if-n-lt2.false c.log2.ensures.low c.log2.ensures.high, few_levels c.args.n c.requires)
