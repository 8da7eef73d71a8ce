use Rattle.vers_trees.proofs.Names.{ℕ, false, ◌-◌, ◌≤◌, AddsAtMost, HasNoRise, scan_reads}
use Rattle.vers_trees.proofs.trees.bp.scan.bits_forward.Given as goal

abbrev pub invariant-loop-position : goal.invariant-loop-position
invariant-loop-position g l = record {
  passed : (from : ℕ) → from ≤ l.begin → HasNoRise false l.bits from l.begin l.target l.fn.rise → HasNoRise false l.bits from l.position l.target l.rise;
  reads : AddsAtMost l.fn.tally l.tally (scan_reads (l.position - l.begin));
}
