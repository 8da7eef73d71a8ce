-- Queries of a node by name: a related node, or a number of it; and the ends of a level.
use Rattle.std.specs.Prelude.{ℕ, ◌==◌, length, Option}
use Rattle.vers_bits.specs.Bits.{bit_value}
use Rattle.vers_trees.specs.Forest.{Forest}
use Rattle.vers_trees.specs.Nodes.{depth, parent, children, siblings, first_of, last_of, next_of, previous_of, level, subtree, node_index}
use Rattle.vers_trees.specs.declared.trees.bp.relatives.Relative.{Relative}
use Rattle.vers_trees.specs.declared.trees.bp.relatives.Relative.TheVariants.{Parent, FirstChild, LastChild, NextSibling, PreviousSibling, LevelNext, LevelPrev}
use Rattle.vers_trees.specs.declared.trees.bp.relatives.Measure.{Measure}
use Rattle.vers_trees.specs.declared.trees.bp.relatives.Measure.TheVariants.{NodeIndex, IsLeaf, Depth, SubtreeSize}
use Rattle.vers_trees.specs.declared.trees.bp.relatives.LevelEnd.{LevelEnd}
use Rattle.vers_trees.specs.declared.trees.bp.relatives.LevelEnd.TheVariants.{Leftmost, Rightmost}

-- the relative of v of this kind, or `None`
abbrev pub relative : Forest → Relative → ℕ → Option ℕ
relative F Parent v = parent F v
relative F FirstChild v = first_of (children F v)
relative F LastChild v = last_of (children F v)
relative F NextSibling v = next_of (siblings F v) v
relative F PreviousSibling v = previous_of (siblings F v) v
relative F LevelNext v = next_of (level F (depth F v)) v
relative F LevelPrev v = previous_of (level F (depth F v)) v

-- a measure of v; true counts as 1 and false as 0
abbrev pub measure : Forest → Measure → ℕ → ℕ
measure F NodeIndex v = node_index F v
measure F IsLeaf v = bit_value (length (children F v) == 0)
measure F Depth v = depth F v
measure F SubtreeSize v = length (subtree F v)

-- the first or the last node of depth d, or `None`
abbrev pub level_end : Forest → LevelEnd → ℕ → Option ℕ
level_end F Leftmost d = first_of (level F d)
level_end F Rightmost d = last_of (level F d)
