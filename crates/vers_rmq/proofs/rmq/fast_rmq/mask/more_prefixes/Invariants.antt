use Rattle.vers_rmq.proofs.Names.{◌≡◌, ℕ, ◌+◌, ◌-◌, ◌*◌, ◌^◌, ◌<◌, ◌≤◌, length, get_or, bit_or, bit_at, PrefixUpTo}
use Rattle.vers_rmq.proofs.rmq.fast_rmq.mask.more_prefixes.Given as goal

abbrev pub invariant-loop-k : goal.invariant-loop-k
invariant-loop-k l = record {
  inside : l.least < length l.items;
  value : l.value ≡ get_or l.items l.least 0;
  few : (q : ℕ) → l.k ≤ l.from + q → bit_at l.bits q ≡ 0;
  made : (first : ℕ) → PrefixUpTo l.items l.start first l.from l.done.mask l.done.least → PrefixUpTo l.items l.start first l.k (bit_or l.done.mask (l.bits * 2 ^ (l.from - l.start))) l.least;
}
