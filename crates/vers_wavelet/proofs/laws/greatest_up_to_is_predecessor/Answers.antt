use Rattle.vers_wavelet.proofs.Nearest.{greatest_up_to_predecessor}
use Rattle.vers_wavelet.proofs.laws.greatest_up_to_is_predecessor.Goals as goal

pub returns : goal.returns
returns c = greatest_up_to_predecessor
