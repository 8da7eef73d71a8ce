use Rattle.vers_sorted.proofs.Names.{◌≡◌, None, slice_get, option_and_then, AddsAtMost, times, element_reads, Changed}
use Rattle.vers_sorted.proofs.elias_fano.EliasFanoVec.get_in_turn.Given as goal

abbrev pub invariant-loop-j : goal.invariant-loop-j
invariant-loop-j g l = record {
  changed : Changed None (λ position m. m ≡ option_and_then (slice_get l.self) position) l.from l.j l.fn.positions l.positions;
  same : l.elements ≡ l.self;
  adds : AddsAtMost l.fn.tally l.tally (times l.j (element_reads l.self));
}
