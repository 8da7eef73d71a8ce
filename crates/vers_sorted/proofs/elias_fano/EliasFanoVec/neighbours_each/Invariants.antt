use Rattle.vers_sorted.proofs.Names.{◌≡◌, ◌+◌, None, length, option_and_then, AddsAtMost, digits, times, Changed, high_length, reads}
use Rattle.vers_sorted.proofs.elias_fano.EliasFanoVec.neighbours_each.Given as goal

abbrev pub invariant-loop-j : goal.invariant-loop-j
invariant-loop-j g l = record {
  changed : Changed None (λ x y. y ≡ option_and_then (g.S.Side.neighbour l.self) x) l.from l.j l.fn.values l.values;
  adds : AddsAtMost l.fn.tally l.tally (times l.j (reads (digits (length l.self) + 5) 2 (high_length l.self)));
}
