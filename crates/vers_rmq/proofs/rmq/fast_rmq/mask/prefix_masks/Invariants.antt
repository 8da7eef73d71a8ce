use Rattle.vers_rmq.proofs.Names.{◌≡◌, ◌-◌, ◌*◌, ◌/◌, ◌<◌, ◌≤◌, PrefixUpTo, IsPrefixMask}
use Rattle.vers_rmq.proofs.rmq.fast_rmq.mask.prefix_masks.Given as goal

abbrev pub invariant-parts : goal.invariant-parts
invariant-parts l = record {
  low : l.start < l.at;
  high : l.at ≤ l.end;
  aligned : l.at < l.end → 16 * ((l.at - l.start) / 16) ≡ l.at - l.start;
  whole : PrefixUpTo l.items l.start l.start l.at l.whole.mask l.whole.least;
  parts : IsPrefixMask l.items 16 l.start l.at l.parts;
}

abbrev pub decreases-parts : goal.decreases-parts
decreases-parts l = l.end - l.at
