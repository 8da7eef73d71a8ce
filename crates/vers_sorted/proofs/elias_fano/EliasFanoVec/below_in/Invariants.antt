use Rattle.vers_sorted.proofs.Names.{◌≡◌, ◌+◌, ◌-◌, ◌≤◌, length, only_low_parts, digits, AddsAtMost, below, low_of}
use Rattle.vers_sorted.proofs.elias_fano.EliasFanoVec.below_in.Given as goal

abbrev pub invariant-loop-from : goal.invariant-loop-from
invariant-loop-from g l =
    record {
      low_is : l.low ≡ low_of l.self l.v;
      order : l.from ≤ l.to;
      start_from : l.fn.bucket.start ≤ l.from;
      to_end : l.to ≤ l.fn.bucket.end;
      from_below : l.from ≤ below l.self l.v;
      below_to : below l.self l.v ≤ l.to;
      budget : digits (l.to - l.from) ≤ digits (length l.self);
      adds : AddsAtMost l.fn.tally l.tally (only_low_parts (digits (length l.self) + 4 - digits (l.to - l.from)));
    }

abbrev pub decreases-loop-from : goal.decreases-loop-from
decreases-loop-from g l = l.to - l.from
