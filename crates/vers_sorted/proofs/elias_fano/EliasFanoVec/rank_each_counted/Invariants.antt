use Rattle.vers_sorted.proofs.Names.{◌≡◌, ◌-◌, ◌≤◌, AddsAtMost, times, Changed, below, search_reads}
use Rattle.vers_sorted.proofs.elias_fano.EliasFanoVec.rank_each_counted.Given as goal

abbrev pub invariant-loop-from : goal.invariant-loop-from
invariant-loop-from g l = record {
  within : l.from ≤ l.len;
  changed : Changed 0 (λ v r. r ≡ below l.self v) 0 l.from l.fn.numbers l.numbers;
  adds : AddsAtMost l.fn.tally l.tally (times l.from (search_reads l.self));
}

abbrev pub decreases-loop-from : goal.decreases-loop-from
decreases-loop-from g l = l.len - l.from
