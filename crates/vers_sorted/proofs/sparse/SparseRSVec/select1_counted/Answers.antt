use Rattle.vers_sorted.proofs.Ones.{length-ones_at}
use Rattle.vers_sorted.proofs.Names.{slice_get_within, get_or_from_slice_get, arith}
use Rattle.vers_sorted.proofs.sparse.SparseRSVec.select1_counted.Goals as goal

pub returns-in-Some-clause-within : goal.returns-in-Some-clause-within
returns-in-Some-clause-within g c = grind (arith, slice_get_within, get_or_from_slice_get, length-ones_at)
