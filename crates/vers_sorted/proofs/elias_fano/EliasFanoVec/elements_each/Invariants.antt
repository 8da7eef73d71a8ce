use Rattle.vers_sorted.proofs.Names.{◌≡◌, None, slice_get, option_and_then, AddsAtMost, times, only_low_parts, Changed}
use Rattle.vers_sorted.proofs.elias_fano.EliasFanoVec.elements_each.Given as goal

abbrev pub invariant-loop-j : goal.invariant-loop-j
invariant-loop-j g l = record {
  changed : Changed None (λ position m. m ≡ option_and_then (slice_get l.self) position) l.from l.j l.fn.positions l.positions;
  adds : AddsAtMost l.fn.tally l.tally (times l.j (only_low_parts 1));
}
