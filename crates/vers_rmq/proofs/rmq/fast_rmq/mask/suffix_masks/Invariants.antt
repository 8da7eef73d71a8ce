use Rattle.vers_rmq.proofs.Names.{◌≡◌, ◌-◌, ◌*◌, ◌/◌, ◌<◌, ◌≤◌, SuffixFrom, IsSuffixMask}
use Rattle.vers_rmq.proofs.rmq.fast_rmq.mask.suffix_masks.Given as goal

abbrev pub invariant-parts : goal.invariant-parts
invariant-parts l = record {
  low : l.start ≤ l.at;
  high : l.at < l.end;
  aligned : 16 * ((l.at - l.start) / 16) ≡ l.at - l.start;
  whole : SuffixFrom l.items l.start l.at l.end l.whole.mask l.whole.least;
  parts : IsSuffixMask l.items 16 l.start l.at l.end l.parts;
}

abbrev pub decreases-parts : goal.decreases-parts
decreases-parts l = l.at
