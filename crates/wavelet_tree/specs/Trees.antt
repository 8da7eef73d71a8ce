-- The weight-balanced tree over the symbols of a list. A range of symbols is divided where half of its elements are below, as nearly as symbols allow, until only one symbol of it occurs.
use Rattle.std.specs.Prelude.{◌≡◌, ℕ, zero, suc, ◌+◌, ◌-◌, ◌*◌, ◌^◌, ◌<◌, ◌≤◌, ◌==◌, ◌++◌, max, All, Bool, List, [], filter, find, length, map, slice_index, count_by, nat_lt, nat_le, unwrap_or, if◌then◌else◌}
use Rattle.std.specs.List.{range_with_len}
use Rattle.vers_wavelet.specs.Symbols.{Symbols}

-- a tree over symbols: a leaf has one symbol, and a fork has the symbols below its split on the left, the others on the right
pub data Tree : Type 0 where
  leaf : ℕ → Tree
  fork : ℕ → Tree → Tree → Tree

-- how many elements of a list are below a symbol
abbrev pub lesser : List ℕ → ℕ → ℕ
lesser items s = count_by (λ y. nat_lt y s) items

-- for each symbol, and for the number after the last, how many elements are below it
abbrev pub starts_of : Symbols → List ℕ
starts_of symbols = map (lesser symbols.items) (range_with_len 0 (2 ^ symbols.width + 1))

-- the first of n symbols from low that has at least half of a number of elements below it, or the symbol after these
unfoldable pub half_from : List ℕ → ℕ → ℕ → ℕ → ℕ
half_from starts elements low n = unwrap_or (find (λ s. nat_le elements (2 * slice_index starts s)) (range_with_len low n)) (low + n)

-- of that symbol and the one before it, the one that is nearer to half
abbrev pub nearer : List ℕ → ℕ → ℕ → ℕ
nearer starts elements s = if nat_lt elements (slice_index starts (s - 1) + slice_index starts s) then s - 1 else s

-- the symbol at which the symbols from low to before end are divided
unfoldable pub split : List ℕ → ℕ → ℕ → ℕ
split starts low end =
    nearer starts (slice_index starts low + slice_index starts end) (half_from starts (slice_index starts low + slice_index starts end) (low + 1) (end - (low + 1)))

-- the tree of the symbols from low to before end, of which there are at most n
unfoldable pub balanced : List ℕ → ℕ → ℕ → ℕ → Tree
balanced starts zero low end = leaf low
balanced starts (suc n) low end =
    if slice_index starts (split starts low end) == slice_index starts end then leaf (split starts low end - 1)
    else fork (split starts low end) (balanced starts n low (split starts low end)) (balanced starts n (split starts low end) end)

-- the tree of a list of symbols
abbrev pub tree_of : Symbols → Tree
tree_of symbols = balanced (starts_of symbols) (2 ^ symbols.width) 0 (2 ^ symbols.width)

-- the depth of a symbol: how many forks lead to its leaf
unfoldable pub depth : Tree → ℕ → ℕ
depth (leaf c) s = 0
depth (fork m l r) s = 1 + (if nat_lt s m then depth l s else depth r s)

-- the number of forks of a tree
unfoldable pub forks : Tree → ℕ
forks (leaf c) = 0
forks (fork m l r) = forks l + forks r + 1

-- the depth of the deepest leaf
unfoldable pub height : Tree → ℕ
height (leaf c) = 0
height (fork m l r) = 1 + max (height l) (height r)

-- the bits of a tree for some elements: none for a leaf, and for a fork one for each element, a one if it isn't below the split, then those of the left subtree for the elements below the split, and those of the right one for the others
unfoldable pub tree_bits : Tree → List ℕ → List Bool
tree_bits (leaf c) xs = []
tree_bits (fork m l r) xs = map (λ x. nat_le m x) xs ++ (tree_bits l (filter (λ x. nat_lt x m) xs) ++ tree_bits r (filter (λ x. nat_le m x) xs))

-- the bits of the tree of a list of symbols
abbrev pub bits_in_tree : Symbols → List Bool
bits_in_tree symbols = tree_bits (tree_of symbols) symbols.items

-- a list of fewer than 2 ^ 63 symbols of at most 16 bits is saved as these parts: how many of its elements are below each symbol, and the bits of its tree
pub record HasParts (symbols : Symbols) (starts : List ℕ) (bits : List Bool) : Type 0 where
  pub narrow : symbols.width ≤ 16
  pub small : All (λ s. s < 2 ^ symbols.width) symbols.items
  pub short : length symbols.items < 2 ^ 63
  pub starts_are : starts_of symbols ≡ starts
  pub bits_are : bits_in_tree symbols ≡ bits
