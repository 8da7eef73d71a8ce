use Rattle.vers_wavelet.proofs.BySize.{kth_is}
use Rattle.vers_wavelet.proofs.laws.kth_by_size_is_kth.Goals as goal

pub returns : goal.returns
returns c = kth_is
