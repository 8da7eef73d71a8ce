-- Ordered forests, and the lists of parentheses that write them down.
use Rattle.std.specs.Prelude.{◌≡◌, ℕ, ◌+◌, Bool, true, false, List, [], ◌∷◌, ◌++◌, map, length}

-- ordered trees: the children of the first tree, and the trees after it
pub data Forest : Type 0 where
  none : Forest
  tree : Forest → Forest → Forest

-- a forest as parentheses: each tree opens, then its children follow, then it closes
abbrev pub text : Forest → List Bool
text none = []
text (tree X Y) = true ∷ (text X ++ false ∷ text Y)

-- the pair of numbers moved to the right by n
abbrev pub moved : ℕ → ℕ × ℕ → ℕ × ℕ
moved n p = (n + p.0, n + p.1)

-- the positions that open and close each tree, in preorder
abbrev pub pairs : Forest → List (ℕ × ℕ)
pairs none = []
pairs (tree X Y) =
    (0, length (text X) + 1) ∷ (map (moved 1) (pairs X) ++ map (moved (length (text X) + 2)) (pairs Y))

-- the parentheses are balanced: they are the text of some forest
pub record IsBalanced (bits : List Bool) : Type 0 where
  pub forest : Forest
  pub written : text forest ≡ bits

-- a list read from the left: the forest up to the first zero that closes nothing, and the forests between such
-- zeros after it. A one that nothing closes is taken to close at the end
abbrev pub closed : Forest → List Forest → Forest × List Forest
closed F [] = (tree F none, [])
closed F (G ∷ Gs) = (tree F G, Gs)

abbrev pub parse : List Bool → Forest × List Forest
parse [] = (none, [])
parse (true ∷ bits) = closed (parse bits).0 (parse bits).1
parse (false ∷ bits) = (none, (parse bits).0 ∷ (parse bits).1)

-- the forest whose text is a balanced list
unfoldable pub forest_of : List Bool → Forest
forest_of bits = (parse bits).0
