use Rattle.vers_wavelet.proofs.Names.{Changed, ◌≡◌, ◌<◌, List, Bool, length, AreLevels}
use Rattle.vers_wavelet.proofs.wavelet.batch.begin_each.Given as goal

abbrev pub invariant-loop-j : goal.invariant-loop-j
invariant-loop-j g l = Changed (λ q r. (g.Q.Query.stays r ≡ g.Q.Query.stays q) × g.Q.Query.keeps l.len l.levels r
    × ((ls : List (List Bool)) → AreLevels ls l.len → length ls ≡ l.levels → g.Q.Query.outcome ls r ≡ g.Q.Query.meaning ls l.len q)
    × (64 < l.levels → g.Q.Query.keeps l.len 0 r × ((ls ms : List (List Bool)) → g.Q.Query.outcome ls r ≡ g.Q.Query.outcome ms r))) l.fn.queries l.queries l.j
