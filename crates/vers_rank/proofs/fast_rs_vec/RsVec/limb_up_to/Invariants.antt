use Rattle.vers_rank.proofs.Names.{◌≡◌, ◌+◌, ◌-◌, ◌*◌, ◌≤◌, held, only_data_words, AddsAtMost}
use Rattle.vers_rank.proofs.fast_rs_vec.RsVec.limb_up_to.Given as goal

abbrev pub invariant-loop-k : goal.invariant-loop-k
invariant-loop-k g l =
    record {
      counted : held l.bit l.self (512 * l.block) + l.before ≡ held l.bit l.self (64 * l.k);
      from : l.before ≤ l.r;
      few : l.before ≤ 64 * (l.k - 8 * l.block);
      adds : AddsAtMost l.fn.tally l.tally (only_data_words (l.k - 8 * l.block));
    }
