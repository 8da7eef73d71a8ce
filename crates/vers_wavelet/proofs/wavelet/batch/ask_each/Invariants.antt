use Rattle.vers_wavelet.proofs.Names.{◌≡◌, ◌-◌, drop, length, AddsAtMost, times, rank_reads, Become}
use Rattle.vers_wavelet.proofs.wavelet.batch.ask_each.Given as goal

abbrev pub invariant-loop-k : goal.invariant-loop-k
invariant-loop-k g l = record {
  asked : Become (λ q r. (g.Q.Query.stays r ≡ g.Q.Query.stays q) × g.Q.Query.keeps l.len (length l.levels - l.k) r
      × (g.Q.Query.outcome (drop l.k l.levels) r ≡ g.Q.Query.meaning l.levels l.len q)) l.fn.queries l.queries;
  adds : AddsAtMost l.fn.tally l.tally (times l.k (times (length l.fn.queries) (times 2 rank_reads)));
}
