use Rattle.vers_trees.proofs.Names.{◌≡◌, false, ◌+◌, ◌-◌, ◌%◌, ◌≤◌, AddsAtMost, HasNoRise, scan_reads}
use Rattle.vers_trees.proofs.trees.bp.scan.bytes_forward.Given as goal

abbrev pub invariant-loop-start : goal.invariant-loop-start
invariant-loop-start g l = record {
  low : l.begin ≤ l.start;
  high : l.start ≤ l.end;
  whole : (l.end - l.start) % 8 ≡ 0;
  passed : HasNoRise false l.bits l.begin l.start l.target l.rise;
  reads : AddsAtMost l.fn.tally l.tally (scan_reads (l.start - l.begin));
}

abbrev pub decreases-loop-start : goal.decreases-loop-start
decreases-loop-start g l = l.end - l.start

abbrev pub invariant-loop-within : goal.invariant-loop-within
invariant-loop-within g l = record {
  high : l.within ≤ l.size;
  whole : l.within % 8 ≡ 0;
  passed : HasNoRise false l.bits l.begin (l.start + l.within) l.target l.rise;
}

abbrev pub decreases-loop-within : goal.decreases-loop-within
decreases-loop-within g l = l.size - l.within
