use Rattle.vers_wavelet.proofs.Names.{nat_tests, leb-true, arith}
use Rattle.vers_wavelet.proofs.Lists.{length-values}
use Rattle.vers_wavelet.proofs.Answering.{rank_begins}
use Rattle.vers_wavelet.proofs.wavelet.batch.rank.RankQueryQuery.begin.Goals as goal
use Rattle.vers_wavelet.proofs.wavelet.batch.rank.RankQueryQuery.begin.Goals.{then-levels-le64, else-levels-le64}

pub returns-then-is_known-clause-same : goal.returns-then-is_known-clause-same
returns-then-is_known-clause-same c = grind (arith, rank_begins, leb-true)

pub returns-else-is_known-clause-same : goal.returns-else-is_known-clause-same
returns-else-is_known-clause-same c = grind (arith, nat_tests, length-values)
