use Rattle.vers_sorted.proofs.Names.{◌≡◌, ℕ, ◌<◌, ◌≤◌, suc, not, true, false, length, get_or, order_of}
use Rattle.std.specs.Prelude.{nat_eq}
use Rattle.vers_sorted.proofs.order.is_in_order.Given as goal

-- no pair so far is out of order if there are no faults, and some pair is if there are any
abbrev pub invariant-loop-i : goal.invariant-loop-i
invariant-loop-i g l = record {
  few : l.faults ≤ l.i;
  none : l.faults ≡ 0 → (k : ℕ) → k < l.i → order_of (not (nat_eq g.row.STRICT 0)) (get_or l.numbers k 0) (get_or l.numbers (suc k) 0) ≡ true;
  some : 0 < l.faults → (k : ℕ) × (suc k < length l.numbers) × (order_of (not (nat_eq g.row.STRICT 0)) (get_or l.numbers k 0) (get_or l.numbers (suc k) 0) ≡ false);
}
