use Rattle.vers_wavelet.proofs.Names.{◌*◌, AddsAtMost, times, rank_reads, IsTrail}
use Rattle.vers_wavelet.proofs.wavelet.nearest.follow.Given as goal

abbrev pub invariant-loop-k : goal.invariant-loop-k
invariant-loop-k g l = record {
  follows : IsTrail l.is_up l.levels l.len (g.D.Digits.number l.symbol) l.start l.end l.k l.trail;
  adds : AddsAtMost l.fn.tally l.tally (times (2 * l.k) rank_reads);
}
