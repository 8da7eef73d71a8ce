use Rattle.wavelet_tree.proofs.Names.{◌+◌, ◌-◌, ◌≤◌, length}
use Rattle.wavelet_tree.specs.inside.Reading.{Merges}
use Rattle.wavelet_tree.proofs.Reading.{NextAt}
use Rattle.wavelet_tree.proofs.read.merge.Given as goal

abbrev pub invariant-loop-position : goal.invariant-loop-position
invariant-loop-position g l = record {
  merges : Merges l.bits l.start l.low_len l.parts l.merged l.position;
  next : NextAt l.bits l.start l.low_len l.position l.low l.high;
  within : l.position ≤ length l.merged;
}

abbrev pub decreases-loop-position : goal.decreases-loop-position
decreases-loop-position g l = length l.merged - l.position

abbrev pub invariant-loop-k : goal.invariant-loop-k
invariant-loop-k g l = record {
  merges : Merges l.bits l.start l.low_len l.parts l.merged (l.position + l.k);
  next : NextAt l.bits l.start l.low_len (l.position + l.k) l.low l.high;
}
