use Rattle.vers_wavelet.proofs.BySize.{one_kth}
use Rattle.vers_wavelet.proofs.laws.one_element_of_a_number.Goals as goal

pub returns : goal.returns
returns c = one_kth
