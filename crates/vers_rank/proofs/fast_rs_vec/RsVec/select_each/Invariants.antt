use Rattle.std.specs.Prelude.{nat_eq, not}
use Rattle.vers_rank.proofs.Names.{◌≡◌, ◌-◌, ◌≤◌, length, select, AddsAtMost, times, superblock_count, select_reads, Changed}
use Rattle.vers_rank.proofs.fast_rs_vec.RsVec.select_each.Given as goal

abbrev pub invariant-loop-from : goal.invariant-loop-from
invariant-loop-from g l = record {
  within : l.from ≤ l.len;
  changed : Changed 0 (λ r p. p ≡ select (not (nat_eq g.row.BIT 0)) l.self r) 0 l.from l.fn.numbers l.numbers;
  adds : AddsAtMost l.fn.tally l.tally (times l.from (select_reads (superblock_count (length l.self))));
}

abbrev pub decreases-loop-from : goal.decreases-loop-from
decreases-loop-from g l = l.len - l.from
