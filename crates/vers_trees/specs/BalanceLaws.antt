-- The law of balance, as a statement.
use Rattle.std.specs.Prelude.{Bool, List, Decides}
use Rattle.vers_trees.specs.Balance.{are_balanced}
use Rattle.vers_trees.specs.Forest.{IsBalanced}

-- `are_balanced` decides `IsBalanced`
abbrev pub ReadingDecidesBalance : Type 0
ReadingDecidesBalance = (bits : List Bool) → Decides (are_balanced bits) (IsBalanced bits)
