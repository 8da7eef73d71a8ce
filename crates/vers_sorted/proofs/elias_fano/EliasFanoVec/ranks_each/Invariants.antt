use Rattle.vers_sorted.proofs.Names.{◌≡◌, ◌+◌, length, AddsAtMost, digits, only_low_parts, times, Changed, below}
use Rattle.vers_sorted.proofs.elias_fano.EliasFanoVec.ranks_each.Given as goal

abbrev pub invariant-loop-j : goal.invariant-loop-j
invariant-loop-j g l = record {
  changed : Changed 0 (λ v r. r ≡ below l.self v) l.from l.j l.fn.numbers l.numbers;
  adds : AddsAtMost l.fn.tally l.tally (times l.j (only_low_parts (digits (length l.self) + 4)));
}
