use Rattle.vers_rmq.proofs.Names.{◌-◌, ◌*◌, ◌/◌, IsLeastItem, AddsAtMost, only_items}
use Rattle.vers_rmq.proofs.rmq.fast_rmq.FastRmq.least_in_block.Given as goal

abbrev pub invariant-loop-part : goal.invariant-loop-part
invariant-loop-part g l = record {
  best : IsLeastItem l.self l.i (16 * l.part - 1) l.least;
  adds : AddsAtMost l.fn.tally l.tally (only_items (l.part - l.i / 16));
}
