use Rattle.vers_wavelet.proofs.Nearest.{least_from_successor}
use Rattle.vers_wavelet.proofs.laws.least_from_is_successor.Goals as goal

pub returns : goal.returns
returns c = least_from_successor
