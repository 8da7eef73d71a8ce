use Rattle.vers_rank.proofs.Names.{◌≡◌, ◌+◌, ◌-◌, ◌*◌, ◌≤◌, true, count}
use Rattle.vers_rank.proofs.fast_rs_vec.RsVec.ones_by_limbs.Given as goal

abbrev pub invariant-loop-k : goal.invariant-loop-k
invariant-loop-k g l = record {
  counted : count true l.self (512 * l.block) + l.ones ≡ count true l.self (64 * l.k);
  few : l.ones ≤ 64 * (l.k - 8 * l.block);
}
