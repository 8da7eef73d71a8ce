use Rattle.vers_sorted.proofs.Names.{◌≡◌, ◌<◌, only_low_parts, AddsAtMost, below, high_of}
use Rattle.vers_sorted.specs.declared.elias_fano.successors.TheConstants.{PARTS}
use Rattle.vers_sorted.specs.inside.Passed.{HasPassed}
use Rattle.vers_sorted.proofs.elias_fano.EliasFanoVec.successor_read.Given as goal

abbrev pub invariant-loop-passed : goal.invariant-loop-passed
invariant-loop-passed g l = record {
  high_is : l.high ≡ high_of l.self l.v;
  passed : HasPassed l.self (below l.self l.v) l.passed;
  few : l.parts < PARTS;
  adds : AddsAtMost l.fn.tally l.tally (only_low_parts l.parts);
}

abbrev pub decreases-loop-passed : goal.decreases-loop-passed
decreases-loop-passed g l = l.passed.ahead.len
