use Rattle.vers_rmq.proofs.Names.{◌≡◌, ℕ, ◌+◌, ◌-◌, ◌*◌, ◌^◌, ◌<◌, ◌≤◌, length, get_or, bit_or, bit_at, SuffixFrom}
use Rattle.vers_rmq.proofs.rmq.fast_rmq.mask.more_suffixes.Given as goal

abbrev pub invariant-down : goal.invariant-down
invariant-down l = record {
  low : l.from ≤ l.k;
  high : l.k ≤ l.to;
  inside : l.least < length l.items;
  value : l.value ≡ get_or l.items l.least 0;
  few : (q : ℕ) → l.to ≤ l.from + q → bit_at l.bits q ≡ 0;
  made : (end : ℕ) → SuffixFrom l.items l.start l.to end l.done.mask l.done.least → SuffixFrom l.items l.start l.k end (bit_or l.done.mask (l.bits * 2 ^ (l.from - l.start))) l.least;
}

abbrev pub decreases-down : goal.decreases-down
decreases-down l = l.k
