-- A walk along a level, by any handles of nodes.
use Rattle.std.specs.Prelude.{◌≡◌, ℕ, List, map, take, length, slice_get, Option, option_map}
use Rattle.vers_trees.specs.Forest.{Forest}
use Rattle.vers_trees.specs.Nodes.{level}

-- the handles yielded so far name the first nodes of the level of depth d, and `next` names the node after them, if there is one
pub record IsAlongLevel {H : Type 0} (position : H → ℕ) (F : Forest) (d : ℕ) (met : List H) (next : Option H) : Type 0 where
  pub first : map position met ≡ take (length met) (level F d)
  pub then : option_map position next ≡ slice_get (level F d) (length met)
