use Rattle.vers_wavelet.proofs.Names.{◌≡◌, map}
use Rattle.vers_wavelet.proofs.Sources.{first_low}
use Rattle.vers_wavelet.proofs.wavelet.make.unpack.low_integers.Given as goal

-- the low bits so far
abbrev pub invariant-loop-i : goal.invariant-loop-i
invariant-loop-i g l = map g.N.Integer.value l.low.items ≡ first_low l.numbers l.width l.i
