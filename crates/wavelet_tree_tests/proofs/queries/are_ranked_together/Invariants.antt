use Rattle.std.proofs.Common.{◌≤◌, length}
use Rattle.std.specs.Prelude.{All}
use Rattle.wavelet_tree_tests.proofs.queries.are_ranked_together.Given as goal

abbrev pub invariant-loop-k : goal.invariant-loop-k
invariant-loop-k g l = All (λ q. (q.start ≤ q.end) × (q.end ≤ length l.tree.items)) l.queries
