use Rattle.vers_wavelet.proofs.Answered.{range_predecessor}
use Rattle.vers_wavelet.proofs.laws.ranges_have_predecessors.Goals as goal

pub returns : goal.returns
returns c = range_predecessor
