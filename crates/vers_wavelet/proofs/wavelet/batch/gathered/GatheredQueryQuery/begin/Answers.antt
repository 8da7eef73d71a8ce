use Rattle.vers_wavelet.proofs.Names.{nat_tests, leb-true, arith}
use Rattle.vers_wavelet.proofs.Gathered.{gathered_begins}
use Rattle.vers_wavelet.proofs.Lists.{length-values}
use Rattle.vers_wavelet.proofs.wavelet.batch.gathered.GatheredQueryQuery.begin.Goals as goal
use Rattle.vers_wavelet.proofs.wavelet.batch.gathered.GatheredQueryQuery.begin.Goals.{then-levels-le64, else-levels-le64}

pub returns-then-is_known-clause-same : goal.returns-then-is_known-clause-same
returns-then-is_known-clause-same c = grind (arith, gathered_begins, leb-true)

pub returns-else-is_known-clause-same : goal.returns-else-is_known-clause-same
returns-else-is_known-clause-same c = grind (arith, nat_tests, length-values)
