use Rattle.vers_trees.proofs.Names.{ℕ, true, ◌-◌, ◌≤◌, length, AddsAtMost, HasNoRise, scan_reads}
use Rattle.vers_trees.proofs.trees.bp.scan.bits_backward.Given as goal

abbrev pub invariant-loop-position : goal.invariant-loop-position
invariant-loop-position g l = record {
  low : l.begin ≤ l.position;
  high : l.position ≤ l.end;
  passed : (to : ℕ) → l.end ≤ to → to ≤ length l.bits → HasNoRise true l.bits to l.end l.target l.fn.rise → HasNoRise true l.bits to l.position l.target l.rise;
  reads : AddsAtMost l.fn.tally l.tally (scan_reads (l.end - l.position));
}

abbrev pub decreases-loop-position : goal.decreases-loop-position
decreases-loop-position g l = l.position - l.begin
