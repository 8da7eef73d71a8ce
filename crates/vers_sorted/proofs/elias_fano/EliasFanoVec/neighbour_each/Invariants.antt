use Rattle.vers_sorted.proofs.Names.{◌≡◌, ◌-◌, ◌≤◌, None, option_and_then, AddsAtMost, times, Changed, search_reads}
use Rattle.vers_sorted.proofs.elias_fano.EliasFanoVec.neighbour_each.Given as goal

abbrev pub invariant-loop-from : goal.invariant-loop-from
invariant-loop-from g l = record {
  within : l.from ≤ l.len;
  changed : Changed None (λ x y. y ≡ option_and_then (g.S.Side.neighbour l.self) x) 0 l.from l.fn.values l.values;
  adds : AddsAtMost l.fn.tally l.tally (times l.from (search_reads l.self));
}

abbrev pub decreases-loop-from : goal.decreases-loop-from
decreases-loop-from g l = l.len - l.from
