use Rattle.vers_wavelet.proofs.Lists.{length-values}
use Rattle.vers_wavelet.proofs.Names.{slice_get_past, leb-true, ltb-true, ltb-false, arith}
use Rattle.vers_wavelet.proofs.Answering.{of_words, of_wide, get_begins}
use Rattle.vers_wavelet.proofs.wavelet.batch.get.GetQueryQuery.begin.Goals as goal
use Rattle.vers_wavelet.proofs.wavelet.batch.get.GetQueryQuery.begin.Goals.{then-levels-le64, else-levels-le64}

pub returns-then-is_known-clause-same : goal.returns-then-is_known-clause-same
returns-then-is_known-clause-same c = grind (arith, of_words, get_begins, ltb-true, leb-true)

pub returns-else-is_known-clause-same : goal.returns-else-is_known-clause-same
returns-else-is_known-clause-same c = grind (arith, of_words, slice_get_past, length-values, ltb-false, of_wide)
