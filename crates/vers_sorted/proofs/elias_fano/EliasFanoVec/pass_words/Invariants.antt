use Rattle.vers_sorted.proofs.Names.{AddsAtMost, below, high_length, reads}
use Rattle.vers_sorted.specs.inside.Passed.{HasPassed}
use Rattle.vers_sorted.proofs.elias_fano.EliasFanoVec.pass_words.Given as goal

abbrev pub invariant-loop : goal.invariant-loop
invariant-loop g l = record {
  passed : HasPassed l.self (below l.self l.v) l.passed;
  adds : AddsAtMost l.fn.tally l.tally (reads 0 l.counter (high_length l.self));
}
