-- The nodes of a forest in the order in which their trees close.
use Rattle.std.specs.Prelude.{ℕ, ◌+◌, List, [], ◌∷◌, ◌++◌, map, length, filter}
use Rattle.vers_trees.specs.Forest.{Forest, none, tree, text, moved}
use Rattle.vers_trees.specs.Nodes.{is_ancestor}

-- the positions that open and close each tree, in postorder
abbrev pub pairs_by_closing : Forest → List (ℕ × ℕ)
pairs_by_closing none = []
pairs_by_closing (tree X Y) =
    map (moved 1) (pairs_by_closing X) ++ (0, length (text X) + 1) ∷ map (moved (length (text X) + 2)) (pairs_by_closing Y)

-- the nodes in postorder: each after its descendants
abbrev pub postorder : Forest → List ℕ
postorder F = map (λ p. p.0) (pairs_by_closing F)

-- the nodes of which v is an ancestor, in postorder
unfoldable pub subtree_post : Forest → ℕ → List ℕ
subtree_post F v = filter (λ w. is_ancestor F v w) (postorder F)
