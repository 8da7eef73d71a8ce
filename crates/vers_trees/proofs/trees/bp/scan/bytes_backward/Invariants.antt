use Rattle.vers_trees.proofs.Names.{◌≡◌, true, ◌+◌, ◌-◌, ◌%◌, ◌≤◌, AddsAtMost, HasNoRise, scan_reads}
use Rattle.vers_trees.proofs.trees.bp.scan.bytes_backward.Given as goal

abbrev pub invariant-loop-stop : goal.invariant-loop-stop
invariant-loop-stop g l = record {
  low : l.begin ≤ l.stop;
  high : l.stop ≤ l.end;
  whole : (l.stop - l.begin) % 8 ≡ 0;
  passed : HasNoRise true l.bits l.end l.stop l.target l.rise;
  reads : AddsAtMost l.fn.tally l.tally (scan_reads (l.end - l.stop));
}

abbrev pub decreases-loop-stop : goal.decreases-loop-stop
decreases-loop-stop g l = l.stop - l.begin

abbrev pub invariant-loop-within : goal.invariant-loop-within
invariant-loop-within g l = record {
  high : l.within ≤ l.size;
  whole : l.within % 8 ≡ 0;
  passed : HasNoRise true l.bits l.end (l.start + l.within) l.target l.rise;
}

abbrev pub decreases-loop-within : goal.decreases-loop-within
decreases-loop-within g l = l.within
