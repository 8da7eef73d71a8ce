use Rattle.std.proofs.Common.{◌≡◌, ◌+◌, ◌∷◌, map, take}
use Rattle.vers_tally.specs.Reads.{AddsAtMost}
use Rattle.sets.specs.Sources.{step_reads_of}
use Rattle.sets.proofs.Joints.{IsStepOf}
use Rattle.sets.proofs.several.AnyOfSeek.seek_counted.Given as goal

abbrev pub invariant-loop-i : goal.invariant-loop-i
invariant-loop-i g l = record {
  same_first : g.S.Seek.set l.self.first ≡ g.S.Seek.set l.fn.self.first;
  same : map g.S.Seek.set l.self.others.items ≡ map g.S.Seek.set l.fn.self.others.items;
  step : IsStepOf (take (l.i + 1) (g.S.Seek.set l.fn.self.first ∷ map g.S.Seek.set l.fn.self.others.items)) l.at l.step;
  adds : AddsAtMost l.fn.tally l.tally (step_reads_of (take (l.i + 1) (g.S.Seek.set l.fn.self.first ∷ map g.S.Seek.set l.fn.self.others.items)));
}
