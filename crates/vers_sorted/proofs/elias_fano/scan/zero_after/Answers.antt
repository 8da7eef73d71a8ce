use Rattle.vers_sorted.proofs.Names.{◌+◌, arith}
use Rattle.vers_sorted.proofs.Scans.{few_zeros}
use Rattle.vers_sorted.proofs.elias_fano.scan.zero_after.Goals as goal

pub overflow_add-h : goal.overflow_add-h
overflow_add-h g c = record { fits = omega (arith, few_zeros c.args.high.now (c.args.h + 1) c.requires.within) }
