use Rattle.vers_rank.proofs.Names.{◌+◌, ◌-◌, ◌*◌, ◌≤◌, count, only_superblock_entries, AddsAtMost}
use Rattle.vers_rank.proofs.fast_rs_vec.RsVec.superblock_from.Given as goal

abbrev pub invariant-loop-step : goal.invariant-loop-step
invariant-loop-step g l =
    record {
      some : l.step ≤ l.n;
      from : count l.bit l.self (8192 * (l.first + (l.step - 1))) ≤ l.r;
      adds : AddsAtMost l.fn.tally l.tally (only_superblock_entries (l.step - 1));
    }
