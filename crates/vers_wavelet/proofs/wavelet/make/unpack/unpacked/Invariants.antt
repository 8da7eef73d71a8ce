use Rattle.vers_wavelet.proofs.Names.{◌≡◌, map}
use Rattle.vers_wavelet.proofs.Sources.{first_numbers}
use Rattle.vers_wavelet.proofs.wavelet.make.unpack.unpacked.Given as goal

-- the numbers so far
abbrev pub invariant-loop-e : goal.invariant-loop-e
invariant-loop-e g l = map g.N.Integer.value l.numbers.items ≡ first_numbers l.bits l.width l.e
