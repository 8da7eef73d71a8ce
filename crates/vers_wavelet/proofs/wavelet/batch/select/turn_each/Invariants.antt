use Rattle.vers_wavelet.proofs.Names.{Changed, ◌≡◌, ◌+◌, List, Bool, length, Some, final_position, AreLevels, HasClimbed}
use Rattle.vers_wavelet.proofs.wavelet.batch.select.turn_each.Given as goal

abbrev pub invariant-loop-j : goal.invariant-loop-j
invariant-loop-j l = Changed (λ q r. (r.rank ≡ q.rank) × (r.symbol ≡ q.symbol)
    × ((ls : List (List Bool)) → AreLevels ls l.len → q.answer ≡ Some (final_position ls q.symbol 0)
    → HasClimbed ls l.len r.symbol (final_position ls r.symbol 0 + r.rank) (length ls) r.answer)) l.fn.queries l.queries l.j
