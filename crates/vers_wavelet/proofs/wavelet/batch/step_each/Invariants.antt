use Rattle.vers_wavelet.proofs.Names.{Changed, ◌≡◌, List, ◌∷◌, Bool, length, AddsAtMost, times, rank_reads}
use Rattle.vers_wavelet.proofs.wavelet.batch.step_each.Given as goal

abbrev pub invariant-loop-j : goal.invariant-loop-j
invariant-loop-j g l = record {
  changed : Changed (λ q r. (g.Q.Query.stays r ≡ g.Q.Query.stays q) × g.Q.Query.keeps (length l.level) l.i r
      × ((ls : List (List Bool)) → length ls ≡ l.i → g.Q.Query.outcome ls r ≡ g.Q.Query.outcome (l.level ∷ ls) q)) l.fn.queries l.queries l.j;
  adds : AddsAtMost l.fn.tally l.tally (times l.j (times 2 rank_reads));
}
