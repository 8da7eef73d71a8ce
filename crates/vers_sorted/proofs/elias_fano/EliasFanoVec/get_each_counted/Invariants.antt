use Rattle.vers_sorted.proofs.Names.{◌≡◌, ◌-◌, ◌≤◌, None, slice_get, option_and_then, AddsAtMost, times, Changed, element_reads}
use Rattle.vers_sorted.proofs.elias_fano.EliasFanoVec.get_each_counted.Given as goal

abbrev pub invariant-loop-from : goal.invariant-loop-from
invariant-loop-from g l = record {
  within : l.from ≤ l.len;
  changed : Changed None (λ position m. m ≡ option_and_then (slice_get l.self) position) 0 l.from l.fn.positions l.positions;
  adds : AddsAtMost l.fn.tally l.tally (times l.from (element_reads l.self));
}

abbrev pub decreases-loop-from : goal.decreases-loop-from
decreases-loop-from g l = l.len - l.from
