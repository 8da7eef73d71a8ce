-- Whether parentheses are balanced, read from the left, and the positions at which nodes open.
use Rattle.std.specs.Prelude.{ℕ, zero, suc, Bool, true, false, ◌&&◌, List, [], ◌∷◌, slice_get, unwrap_or}

-- whether parentheses close what they open and n that were open before them, and no more
abbrev pub closes : ℕ → List Bool → Bool
closes zero [] = true
closes (suc n) [] = false
closes n (true ∷ bits) = closes (suc n) bits
closes zero (false ∷ bits) = false
closes (suc n) (false ∷ bits) = closes n bits

-- whether parentheses are balanced: each zero closes a one, and each one is closed
abbrev pub are_balanced : List Bool → Bool
are_balanced bits = closes 0 bits

-- whether parentheses are balanced and position v has a one, which opens a node
abbrev pub has_node : List Bool → ℕ → Bool
has_node bits v = are_balanced bits && unwrap_or (slice_get bits v) false
