-- The nodes of an ordered forest, each named by the position that opens its tree, and their relations.
use Rattle.std.specs.Prelude.{ℕ, ◌+◌, ◌==◌, Bool, ◌&&◌, nat_lt, nat_le, nat_eq, List, map, length, filter, find, count_by, slice_get, Contains, Option, Some, None, unwrap_or, option_map}
use Rattle.std.specs.List.{last_or}
use Rattle.std.specs.Option.{option_eq}
use Rattle.vers_trees.specs.Forest.{Forest, pairs}

-- the positions that open the trees, ascending: the nodes in preorder
abbrev pub nodes : Forest → List ℕ
nodes F = map (λ p. p.0) (pairs F)

-- v is one of the nodes
abbrev pub IsNode : Forest → ℕ → Type 0
IsNode F v = Contains (nodes F) v

-- the position that closes the tree opened at v, and v itself if none opens there
unfoldable pub closing : Forest → ℕ → ℕ
closing F v = unwrap_or (option_map (λ p. p.1) (find (λ p. p.0 == v) (pairs F))) v

-- whether the pair of a contains that of v; each node is its own ancestor
unfoldable pub is_ancestor : Forest → ℕ → ℕ → Bool
is_ancestor F a v = nat_le a v && nat_le (closing F v) (closing F a)

-- whether it does so strictly
unfoldable pub is_proper_ancestor : Forest → ℕ → ℕ → Bool
is_proper_ancestor F a v = nat_lt a v && nat_lt (closing F v) (closing F a)

-- the nodes whose pairs strictly contain that of v, each around the next
abbrev pub proper_ancestors : Forest → ℕ → List ℕ
proper_ancestors F v = filter (λ a. is_proper_ancestor F a v) (nodes F)

-- the number of proper ancestors of v: 0 for a root
unfoldable pub depth : Forest → ℕ → ℕ
depth F v = length (proper_ancestors F v)

-- the nearest proper ancestor; `None` for a root
unfoldable pub parent : Forest → ℕ → Option ℕ
parent F v = last_or None (proper_ancestors F v)

-- the ancestor whose depth is t less, v itself if t is 0
unfoldable pub level_ancestor : Forest → ℕ → ℕ → Option ℕ
level_ancestor F v t = find (λ a. is_ancestor F a v && (depth F a + t == depth F v)) (nodes F)

-- the nodes that have this parent, ascending, and those that have none
unfoldable pub nodes_under : Forest → Option ℕ → List ℕ
nodes_under F p = filter (λ v. option_eq nat_eq (parent F v) p) (nodes F)

-- the nodes whose parent is v, ascending
abbrev pub children : Forest → ℕ → List ℕ
children F v = nodes_under F (Some v)

abbrev pub roots : Forest → List ℕ
roots F = nodes_under F None

-- the nodes with the parent of v, v included; roots are siblings
abbrev pub siblings : Forest → ℕ → List ℕ
siblings F v = nodes_under F (parent F v)

-- the first of some nodes, or `None`
abbrev pub first_of : List ℕ → Option ℕ
first_of vs = slice_get vs 0

-- the last of some nodes, or `None`
abbrev pub last_of : List ℕ → Option ℕ
last_of vs = last_or None vs

-- the nearest of some nodes after v, or `None`
abbrev pub next_of : List ℕ → ℕ → Option ℕ
next_of vs v = find (λ w. nat_lt v w) vs

-- the nearest of some nodes before v, or `None`
abbrev pub previous_of : List ℕ → ℕ → Option ℕ
previous_of vs v = last_or None (filter (λ w. nat_lt w v) vs)

-- the nodes of depth d, ascending
unfoldable pub level : Forest → ℕ → List ℕ
level F d = filter (λ v. depth F v == d) (nodes F)

-- the nodes of which v is an ancestor, in preorder
unfoldable pub subtree : Forest → ℕ → List ℕ
subtree F v = filter (λ w. is_ancestor F v w) (nodes F)

-- the index of v in preorder: how many nodes precede it
unfoldable pub node_index : Forest → ℕ → ℕ
node_index F v = count_by (λ w. nat_lt w v) (nodes F)
