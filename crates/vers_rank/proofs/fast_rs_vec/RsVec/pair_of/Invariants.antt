use Rattle.vers_rank.proofs.Names.{◌≡◌, ◌≢◌, ◌+◌, ◌-◌, ◌/◌, ◌<◌, ◌≤◌, length, count, select, AddsAtMost, superblock_count, select_reads, one_more, only_rank_calls}
use Rattle.vers_rank.proofs.fast_rs_vec.RsVec.pair_of.Given as goal

abbrev pub invariant-loop-number : goal.invariant-loop-number
invariant-loop-number g l = record {
  from : l.r ≤ l.number;
  to : l.number ≤ l.r + 1;
  some : l.number < count l.bit l.self (length l.self);
  first_is : l.r < l.number → l.first ≡ select l.bit l.self l.r;
  apart : l.r < l.number → l.first / 64 ≢ select l.bit l.self (l.r + 1) / 64;
  counted : l.tally.rank_calls ≡ one_more l.fn.tally.rank_calls;
  begun : l.number ≤ l.r → AddsAtMost l.fn.tally l.tally (only_rank_calls 1);
  adds : AddsAtMost l.fn.tally l.tally (select_reads (superblock_count (length l.self)));
}

abbrev pub decreases-loop-number : goal.decreases-loop-number
decreases-loop-number g l = l.r + 1 - l.number
