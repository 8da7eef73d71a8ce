-- Worked rows of balance, which compute.
use Rattle.std.specs.Prelude.{◌≡◌, true, false, [], ◌∷◌, refl}
use Rattle.vers_trees.specs.Balance.{are_balanced, has_node}
use Rattle.vers_trees.specs.Rows.{bits_110100}

-- all that open close, one stays open, and one closes what didn't open
pub are_balanced-110100 : are_balanced bits_110100 ≡ true
are_balanced-110100 = refl

pub are_balanced-110 : are_balanced (true ∷ true ∷ false ∷ []) ≡ false
are_balanced-110 = refl

pub are_balanced-01 : are_balanced (false ∷ true ∷ []) ≡ false
are_balanced-01 = refl

-- nodes open at ones of balanced parentheses alone, and none past the end
pub has_node-110100-3 : has_node bits_110100 3 ≡ true
has_node-110100-3 = refl

pub has_node-110100-2 : has_node bits_110100 2 ≡ false
has_node-110100-2 = refl

pub has_node-110100-6 : has_node bits_110100 6 ≡ false
has_node-110100-6 = refl

pub has_node-110-0 : has_node (true ∷ true ∷ false ∷ []) 0 ≡ false
has_node-110-0 = refl
