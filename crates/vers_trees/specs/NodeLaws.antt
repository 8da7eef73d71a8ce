-- The laws of the nodes of a forest, as statements.
use Rattle.std.specs.Prelude.{◌≡◌, ℕ, ◌+◌, ◌-◌, ◌≤◌, ◌↔◌, Bool, true, List, length, slice_get, Contains, Some, None}
use Rattle.vers_trees.specs.Forest.{Forest, IsBalanced, forest_of}
use Rattle.vers_trees.specs.Nodes.{nodes, IsNode, depth, level, last_of, next_of, previous_of}

-- in a balanced list exactly the ones open nodes
abbrev pub NodeIffOne : Type 0
NodeIffOne = (bits : List Bool) (v : ℕ) → IsBalanced bits → IsNode (forest_of bits) v ↔ (slice_get bits v ≡ Some true)

-- a level has exactly the nodes of its depth
abbrev pub LevelIffDepth : Type 0
LevelIffDepth = (F : Forest) (d v : ℕ) → Contains (level F d) v ↔ (IsNode F v × (depth F v ≡ d))

-- element i of a level is a node of its depth, and the next node on the level is the next element
abbrev pub LevelsGoOn : Type 0
LevelsGoOn = (F : Forest) (d i v : ℕ) → slice_get (level F d) i ≡ Some v
    → IsNode F v × (depth F v ≡ d) × (next_of (level F d) v ≡ slice_get (level F d) (i + 1))

-- the previous node on a level is the previous element, the first has none, and the last node of the level is the last element
abbrev pub LevelsGoBack : Type 0
LevelsGoBack = (F : Forest) (d : ℕ) → (last_of (level F d) ≡ slice_get (level F d) (length (level F d) - 1))
    × ((v : ℕ) → slice_get (level F d) 0 ≡ Some v → previous_of (level F d) v ≡ None)
    × ((i v : ℕ) → slice_get (level F d) (i + 1) ≡ Some v → previous_of (level F d) v ≡ slice_get (level F d) i)

-- no level has more elements than the forest has nodes
abbrev pub LevelsAreParts : Type 0
LevelsAreParts = (F : Forest) (d : ℕ) → length (level F d) ≤ length (nodes F)
