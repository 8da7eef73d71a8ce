use Rattle.vers_wavelet.proofs.Names.{ℕ, ◌+◌, ◌-◌, ◌*◌, ◌≤◌, ◌<◌, length, AddsAtMost, times, rank_reads, ReducesKth, HasRoom, IsWay}
use Rattle.vers_wavelet.proofs.wavelet.way.Way.find.Given as goal

abbrev pub invariant-loop-k : goal.invariant-loop-k
invariant-loop-k g l = record {
  order : l.choice.start + l.choice.left < l.choice.end;
  within : l.choice.end ≤ l.len;
  deep : l.k ≤ length l.levels;
  room : HasRoom 64 (length l.levels - l.k) l.number;
  kept : l.choice.left ≤ l.i;
  reduced : (j : ℕ) → ReducesKth l.levels 0 l.len (l.i - l.choice.left + j) l.k l.choice.start l.choice.end j l.number;
  way : IsWay l.levels l.len l.self;
  adds : AddsAtMost l.fn.tally l.tally (times (2 * l.k) rank_reads);
}
