use Rattle.vers_rank.proofs.Names.{◌+◌, ◌-◌, ◌*◌, ◌<◌, ◌≤◌, length, count, only_superblock_entries, digits, AddsAtMost}
use Rattle.vers_rank.proofs.fast_rs_vec.RsVec.superblock_among.Given as goal

abbrev pub invariant-loop-left : goal.invariant-loop-left
invariant-loop-left g l =
    record {
      some : 0 < l.left;
      within : 8192 * (l.start + l.left) < length l.self + 8192;
      from : count l.bit l.self (8192 * l.start) ≤ l.r;
      to : l.r < count l.bit l.self (8192 * (l.start + l.left));
      budget : digits (l.left - 1) ≤ digits (l.n - 1);
      adds : AddsAtMost l.fn.tally l.tally (only_superblock_entries (digits (l.n - 1) - digits (l.left - 1)));
    }

abbrev pub decreases-loop-left : goal.decreases-loop-left
decreases-loop-left g l = l.left
