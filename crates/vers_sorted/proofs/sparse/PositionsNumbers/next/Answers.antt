use Rattle.vers_sorted.proofs.Names.{sym, ◌∙◌, arith}
use Rattle.vers_sorted.proofs.SparseBits.{past_position, position_taken, all_positions_taken}
use Rattle.vers_sorted.proofs.sparse.PositionsNumbers.next.Goals as goal

pub returns-in_err-position : goal.returns-in_err-position
returns-in_err-position g c = rw c.from_residual.ensures (all_positions_taken _ _ _ (sym c.position_from.ensures ∙ c.in_err-position.was))

pub overflow_add-self : goal.overflow_add-self
overflow_add-self g c =
    record { fits = omega (arith, (past_position _ _ _ c.in_ok-position.position (sym c.position_from.ensures ∙ c.in_ok-position.was)).0, c.len.ensures.value, c.len.ensures.bounded) }

pub returns : goal.returns
returns g c = position_taken _ _ _ c.in_ok-position.position (sym c.position_from.ensures ∙ c.in_ok-position.was)
