use Rattle.vers_wavelet.proofs.Names.{refl, get_or-replicate}
use Rattle.vers_wavelet.proofs.Ways.{node_none}
use Rattle.vers_wavelet.proofs.wavelet.way.Way.new.Goals as goal

pub returns : goal.returns
returns c = λ ls n few. record {
  long = refl;
  each = λ k d h. rw (get_or-replicate 64 k _ d h) (node_none ls n k few);
}
