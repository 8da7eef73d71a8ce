use Rattle.vers_wavelet.proofs.Names.{◌≡◌, ◌+◌, ◌-◌, ◌%◌, ◌^◌, HasRoom}
use Rattle.vers_wavelet.proofs.wavelet.digits.copy_digits.Given as goal

abbrev pub invariant-loop-i : goal.invariant-loop-i
invariant-loop-i g l = record {
  room : HasRoom (g.D.Digits.width l.to) (l.high - l.i) (g.D.Digits.number l.to);
  same : g.D.Digits.width l.to ≡ g.D.Digits.width l.fn.to;
  copied : g.D.Digits.number l.to + g.D.Digits.number l.from % 2 ^ (l.high - l.i) ≡ g.D.Digits.number l.from % 2 ^ l.high;
}
