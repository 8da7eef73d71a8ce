-- How the forks of a tree are stored: as nodes, those of both subtrees before their own, and as bits, one for each element, its own before those of the subtrees.
use Rattle.std.specs.Prelude.{◌≡◌, ℕ, zero, suc, ◌+◌, ◌-◌, ◌^◌, ◌%◌, ◌<◌, ◌≤◌, ◌==◌, Bool, true, false, List, map, filter, take, length, slice_index, slice_index_or, count_by, nat_lt, nat_le, All, if◌then◌else◌}
use Rattle.std.specs.List.{range_with_len, sum_by}
use Rattle.vers_bits.specs.Bits.{count}
use Rattle.vers_tally.specs.Reads.{Reads, AddsAtMost, times}
use Rattle.vers_wavelet.specs.Symbols.{Symbols}
use Rattle.wavelet_tree.specs.Trees.{Tree, starts_of, tree_of, depth, forks}
use Rattle.wavelet_tree.specs.Trees.Tree.{leaf, fork}
use Rattle.wavelet_tree.specs.declared.node.Node.{Node}
use Rattle.wavelet_tree.specs.declared.node.TheConstants.{LEAVES}

-- a number that is to be added modulo 2 ^ 64, so that `from` becomes `to`
abbrev pub shift : ℕ → ℕ → ℕ
shift to from = (to + (2 ^ 64 - from)) % 2 ^ 64

-- the link to a tree whose nodes begin at a node: its own is the last of them
abbrev pub link : Tree → ℕ → ℕ
link (leaf c) at = LEAVES + c
link (fork m l r) at = at + forks l + forks r

-- the start of the positions of a tree: at its first bit, or at the sorted position of its only symbol
abbrev pub entry : Tree → List ℕ → ℕ → ℕ
entry (leaf c) starts start = slice_index starts c
entry (fork m l r) starts start = start

-- the elements on the left of a split, and those on the right
abbrev pub lows : ℕ → List ℕ → List ℕ
lows m xs = filter (λ x. nat_lt x m) xs

abbrev pub highs : ℕ → List ℕ → List ℕ
highs m xs = filter (λ x. nat_le m x) xs

-- how many bits a tree has for some elements
abbrev pub weight : Tree → List ℕ → ℕ
weight t xs = sum_by (depth t) xs

-- node `at` divides the elements xs, whose bits begin at bit `start`, and leads to both subtrees
pub record IsFork (starts : List ℕ) (nodes : List Node) (bits : List Bool) (used m : ℕ) (l r : Tree) (first at start : ℕ) (xs : List ℕ) : Type 0 where
  pub inside : at < length nodes
  pub few : at < LEAVES
  pub within : start + length xs ≤ used
  pub split_is : (d : Node) → (slice_index_or nodes at d).split ≡ m
  pub low_link : (d : Node) → (slice_index_or nodes at d).low_link ≡ link l first
  pub high_link : (d : Node) → (slice_index_or nodes at d).high_link ≡ link r (first + forks l)
  pub low : (d : Node) → (slice_index_or nodes at d).low ≡ shift (entry l starts (start + length xs)) (start - count true bits start)
  pub high : (d : Node) → (slice_index_or nodes at d).high ≡ shift (entry r starts (start + length xs + weight l (lows m xs))) (count true bits start)
  pub ones : (i : ℕ) → i ≤ length xs → count true bits (start + i) ≡ count true bits start + count_by (λ x. nat_le m x) (take i xs)
  pub bit : (i : ℕ) → i < length xs → slice_index_or bits (start + i) false ≡ nat_le m (slice_index xs i)

-- the nodes from `first` on and the bits from `start` on are those of a tree for the elements xs
abbrev pub Stands : Tree → List ℕ → List Node → List Bool → ℕ → ℕ → ℕ → List ℕ → Type 0
Stands (leaf c) starts nodes bits used first start xs = All (λ x. x ≡ c) xs × (slice_index starts c + length xs < 2 ^ 64)
Stands (fork m l r) starts nodes bits used first start xs =
    IsFork starts nodes bits used m l r first (first + forks l + forks r) start xs
    × Stands l starts nodes bits used first (start + length xs) (lows m xs)
    × Stands r starts nodes bits used (first + forks l) (start + length xs + weight l (lows m xs)) (highs m xs)

-- a node that is never read
abbrev pub no_node : Node
no_node = record { low = 0; high = 0; low_link = 0; high_link = 0; split = 0 }

-- the symbol that the bits from a position of a tree on lead to, in at most n steps
unfoldable pub led : ℕ → List Node → List Bool → ℕ → ℕ → ℕ
led zero nodes bits link position = link - LEAVES
led (suc n) nodes bits link position =
    if nat_le LEAVES link then link - LEAVES else
    if slice_index_or bits position false then led n nodes bits (slice_index_or nodes link no_node).high_link ((count true bits position + (slice_index_or nodes link no_node).high) % 2 ^ 64) else
    led n nodes bits (slice_index_or nodes link no_node).low_link ((position - count true bits position + (slice_index_or nodes link no_node).low) % 2 ^ 64)

-- the symbols at the first positions
abbrev pub symbols_in : List Node → List Bool → ℕ → ℕ → List ℕ
symbols_in nodes bits root len = map (led (length nodes) nodes bits root) (range_with_len 0 len)

-- the parts of a wavelet tree are those of a list of symbols
pub record IsTreeOf (symbols : Symbols) (starts : List ℕ) (nodes : List Node) (bits : List Bool) (root width len : ℕ) : Type 0 where
  pub narrow : width ≤ 16
  pub same_width : symbols.width ≡ width
  pub long : length symbols.items ≡ len
  pub short : len < 2 ^ 64
  pub small : All (λ s. s < 2 ^ width) symbols.items
  pub starts_are : starts ≡ starts_of symbols
  pub nodes_are : length nodes ≡ forks (tree_of symbols)
  pub bits_are : length bits ≡ weight (tree_of symbols) symbols.items + 1
  pub ended : slice_index_or bits (weight (tree_of symbols) symbols.items) true ≡ false
  pub fits : length bits < 2 ^ 64
  pub root_is : root ≡ link (tree_of symbols) 0
  pub stands : Stands (tree_of symbols) starts nodes bits (weight (tree_of symbols) symbols.items) 0 0 symbols.items

-- a walk to a symbol reached positions a and b of a tree below: as many occurrences of the symbol precede them as the goals require, and its reads are within those of each fork so far; if `here`, the symbol is at position a
pub record WalksIn (tree : Tree) (starts : List ℕ) (nodes : List Node) (bits : List Bool) (used : ℕ) (here : Bool) (each : Reads) (s all goal other : ℕ) (old new : Reads) (at a b : ℕ) : Type 0 where
  pub first : ℕ
  pub start : ℕ
  pub xs : List ℕ
  pub i : ℕ
  pub j : ℕ
  pub steps : ℕ
  pub stands : Stands tree starts nodes bits used first start xs
  pub link_is : at ≡ link tree first
  pub a_is : a ≡ entry tree starts start + i
  pub b_is : b ≡ entry tree starts start + j
  pub i_within : i ≤ length xs
  pub j_within : j ≤ length xs
  pub occurs : 0 < count_by (λ x. x == s) xs
  pub goal_is : slice_index starts s + count_by (λ x. x == s) (take i xs) ≡ goal
  pub other_is : slice_index starts s + count_by (λ x. x == s) (take j xs) ≡ other
  pub steps_are : steps + depth tree s ≡ all
  pub adds : AddsAtMost old new (times steps each)
  pub at_symbol : here ≡ true → (i < length xs) × (slice_index xs i ≡ s)

abbrev pub Walks : List ℕ → List Node → List Bool → ℕ → Bool → Reads → ℕ → ℕ → ℕ → ℕ → Reads → Reads → ℕ → ℕ → ℕ → Type 0
Walks starts nodes bits used here each s all goal other old new at a b = (tree : Tree) × WalksIn tree starts nodes bits used here each s all goal other old new at a b
