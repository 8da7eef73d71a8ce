use Rattle.vers_rank.proofs.Names.{◌≡◌, ◌+◌, ◌-◌, ◌*◌, ◌≤◌, count, only_block_entries, AddsAtMost}
use Rattle.vers_rank.proofs.fast_rs_vec.RsVec.block_up_to.Given as goal

abbrev pub invariant-loop-j : goal.invariant-loop-j
invariant-loop-j g l =
    record {
      from : l.rest ≤ l.r;
      counted : count l.bit l.self (512 * (16 * l.s + (l.j - 1))) + l.rest ≡ count l.bit l.self (8192 * l.s) + l.r;
      adds : AddsAtMost l.fn.tally l.tally (only_block_entries (l.j - 1));
    }
