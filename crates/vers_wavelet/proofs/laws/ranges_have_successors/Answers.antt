use Rattle.vers_wavelet.proofs.Answered.{range_successor}
use Rattle.vers_wavelet.proofs.laws.ranges_have_successors.Goals as goal

pub returns : goal.returns
returns c = range_successor
