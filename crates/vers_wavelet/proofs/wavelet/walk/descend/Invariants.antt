use Rattle.vers_wavelet.proofs.Names.{◌≡◌, ◌≤◌, drop, AddsAtMost, times, rank_reads, final_position}
use Rattle.vers_wavelet.proofs.wavelet.walk.descend.Given as goal

abbrev pub invariant-loop-k : goal.invariant-loop-k
invariant-loop-k g l = record {
  within : l.at ≤ l.len;
  leads : final_position (drop l.k l.levels) (g.D.Digits.number l.symbol) l.at ≡ final_position l.levels (g.D.Digits.number l.symbol) l.position;
  adds : AddsAtMost l.fn.tally l.tally (times l.k rank_reads);
}
