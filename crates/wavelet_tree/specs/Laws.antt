-- The laws of wavelet trees, as statements.
use Rattle.std.specs.Prelude.{ℕ, ◌≤◌}
use Rattle.wavelet_tree.specs.Trees.{Tree, depth, height}

-- no symbol is deeper than the deepest leaf
abbrev pub NoDepthExceedsHeight : Type 0
NoDepthExceedsHeight = (tree : Tree) (s : ℕ) → depth tree s ≤ height tree
