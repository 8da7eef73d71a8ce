use Rattle.std.proofs.Common.{◌≡◌, map, take, true}
use Rattle.std.specs.List.{list_all}
use Rattle.vers_tally.specs.Reads.{AddsAtMost}
use Rattle.sets.specs.Sources.{step_reads_of}
use Rattle.sets.proofs.several.in_each.Given as goal

abbrev pub invariant-loop-i : goal.invariant-loop-i
invariant-loop-i g l = record {
  same : map g.S.Seek.set l.sets.items ≡ map g.S.Seek.set l.fn.sets.items;
  each : list_all (λ one. one.has l.x) (take l.i (map g.S.Seek.set l.fn.sets.items)) ≡ true;
  adds : AddsAtMost l.fn.tally l.tally (step_reads_of (take l.i (map g.S.Seek.set l.fn.sets.items)));
}
