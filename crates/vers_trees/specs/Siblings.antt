-- Walks from tree to tree among siblings, over the list of parentheses.
use Rattle.std.specs.Prelude.{if◌then◌else◌, ◌≡◌, ℕ, zero, suc, ◌+◌, Bool, true, false, List, [], ◌∷◌, length, slice_index_or, negsuc, Option, Some, None, unwrap_or}
use Rattle.vers_trees.specs.Excess.{first_rise_after, last_rise_before}

-- the position at which the parenthesis opens that closes at c, in a balanced list
abbrev pub opening_of : List Bool → ℕ → ℕ
opening_of bits c = unwrap_or (last_rise_before bits c (negsuc 0)) 0

-- of a position that opens and the one that closes it: the position, and the one past its tree
abbrev pub tree_to : ℕ → Option ℕ → Option (ℕ × ℕ)
tree_to p None = None
tree_to p (Some c) = Some (p, c + 1)

-- of the position at which a tree opens: the position, twice
abbrev pub opened : Option ℕ → Option (ℕ × ℕ)
opened None = None
opened (Some v) = Some (v, v)

-- the tree that opens at p, and the position past it
abbrev pub tree_from : List Bool → ℕ → Option (ℕ × ℕ)
tree_from bits p = if slice_index_or bits p false then tree_to p (first_rise_after bits p (negsuc 0)) else None

-- the tree that closes right before p, and the position at which it opens
abbrev pub tree_before : List Bool → ℕ → Option (ℕ × ℕ)
tree_before bits zero = None
tree_before bits (suc p) = if slice_index_or bits p true then None else opened (last_rise_before bits p (negsuc 0))

-- the next tree forwards or backwards from the position p, and the position on its other side
abbrev pub tree_beside : List Bool → Bool → ℕ → Option (ℕ × ℕ)
tree_beside bits forward p = if forward then tree_from bits p else tree_before bits p

-- what was met, and what is met from the position after it
abbrev pub met : Option (ℕ × ℕ) → (ℕ → List ℕ) → List ℕ
met None rest = []
met (Some q) rest = q.0 ∷ rest q.1

-- the nodes that a walk by steps meets from the position p on, in at most n steps
abbrev pub walked : (ℕ → Option (ℕ × ℕ)) → ℕ → ℕ → List ℕ
walked step zero p = []
walked step (suc n) p = met (step p) (walked step n)

-- the siblings that a walk forwards or backwards still meets from the position p on
unfoldable pub siblings_left : List Bool → Bool → ℕ → List ℕ
siblings_left bits forward p = walked (tree_beside bits forward) (length bits) p

-- by steps from the position p a walk meets exactly these nodes, and then ends
abbrev pub MeetsJust : (ℕ → Option (ℕ × ℕ)) → ℕ → List ℕ → Type 0
MeetsJust step p [] = step p ≡ None
MeetsJust step p (v ∷ vs) = (q : ℕ) × (step p ≡ Some (v, q)) × MeetsJust step q vs

-- a walk of siblings from the position p ends
abbrev pub IsWalkOfSiblings : List Bool → Bool → ℕ → Type 0
IsWalkOfSiblings bits forward p = MeetsJust (tree_beside bits forward) p (siblings_left bits forward p)
