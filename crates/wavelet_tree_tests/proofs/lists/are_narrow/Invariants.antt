use Rattle.std.proofs.Common.{ℕ, ◌<◌, ◌^◌, get_or}
use Rattle.wavelet_tree_tests.proofs.lists.are_narrow.Given as goal

abbrev pub invariant-loop-number : goal.invariant-loop-number
invariant-loop-number l = (k d : ℕ) → k < l.number-index → get_or l.numbers k d < 2 ^ l.width
