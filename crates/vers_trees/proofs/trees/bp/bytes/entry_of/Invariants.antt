use Rattle.vers_trees.proofs.Names.{◌+◌, ◌<◌, ◌≤◌, ◌≡◌, ℕ, Bool, List, length, slice_index_or, IsByte, HasMet}
use Rattle.vers_trees.proofs.trees.bp.bytes.entry_of.Given as goal

abbrev pub invariant-loop-step : goal.invariant-loop-step
invariant-loop-step l = record {
  met : (bits : List Bool) → IsByte bits l.byte → HasMet l.from_end bits l.step l.value l.met.least l.met.greatest l.met.positions;
  low : 8 ≤ l.value + l.step;
  high : l.value ≤ 8 + l.step;
  least : l.met.least ≤ 9;
  greatest : l.met.greatest ≤ 16;
  many : length l.met.positions ≡ 17;
  few : (x : ℕ) → slice_index_or l.met.positions x 7 < 8;
}
