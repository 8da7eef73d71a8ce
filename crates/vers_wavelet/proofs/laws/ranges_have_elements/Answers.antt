use Rattle.vers_wavelet.proofs.Answered.{range_kth}
use Rattle.vers_wavelet.proofs.laws.ranges_have_elements.Goals as goal

pub returns : goal.returns
returns c = range_kth
