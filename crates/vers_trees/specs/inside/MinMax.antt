-- A tree of excesses: what its nodes represent of the parts of a list below them.
use Rattle.std.specs.Prelude.{Bool, true, false, min, ◌≡◌, ◌≢◌, ℕ, ◌+◌, ◌*◌, ◌-◌, ◌%◌, ◌^◌, ◌<◌, ◌≤◌, ◌⊎◌, List, length, slice_index_or, ℤ, pos, negsuc, ◌+ℤ◌, ◌-ℤ◌, ◌≤ℤ◌, FitsSigned}
use mir.Syntax.{w64}
use Rattle.std.specs.Int.{int_min, int_max}
use Rattle.vers_bits.specs.Bits.{number, part}
use Rattle.vers_trees.specs.Excess.{excess}
use Rattle.vers_trees.specs.inside.Scans.{sum_past, edge, IsBetween}
use Rattle.vers_trees.specs.declared.trees.bp.min_max.Node.{Node}

-- the node over two neighbouring parts
abbrev pub combined : Node → Node → Node
combined x y = record { total = x.total +ℤ y.total; least = int_min x.least (x.total +ℤ y.least); greatest = int_max x.greatest (x.total +ℤ y.greatest) }

-- the sums of a second part after a first one are not too long
pub record SumsFit (x y : Node) : Type 0 where
  pub total : FitsSigned w64 (x.total +ℤ y.total)
  pub least : FitsSigned w64 (x.total +ℤ y.least)
  pub greatest : FitsSigned w64 (x.total +ℤ y.greatest)

-- r is between the least and the greatest excess
pub record IsInRange (x : Node) (r : ℤ) : Type 0 where
  pub low : x.least ≤ℤ r
  pub high : r ≤ℤ x.greatest

-- the same, with the sum before the part, 0, as one of those in it
pub record IsInRangeOrStart (x : Node) (r : ℤ) : Type 0 where
  pub low : int_min x.least (pos 0) ≤ℤ r
  pub high : r ≤ℤ int_max x.greatest (pos 0)

-- the total is 0, and no position is below the start
pub record IsLevel (x : Node) : Type 0 where
  pub total : x.total ≡ pos 0
  pub least : pos 0 ≤ℤ x.least

-- the node over no block: its range is empty
abbrev pub empty_node : Node
empty_node = record { total = pos 0; least = pos 1; greatest = negsuc 0 }

-- x is the node of the bits from position a to before b, of which there is at least one: the total of their excess, and
-- the least and the greatest after one of them
pub record IsPart (l : List Bool) (a b : ℕ) (x : Node) : Type 0 where
  pub total : excess l b ≡ excess l a +ℤ x.total
  pub low : (j : ℕ) → a < j → j ≤ b → (excess l a +ℤ x.least) ≤ℤ excess l j
  pub high : (j : ℕ) → a < j → j ≤ b → excess l j ≤ℤ (excess l a +ℤ x.greatest)
  pub least : (j : ℕ) × (a < j) × (j ≤ b) × (excess l j ≡ excess l a +ℤ x.least)
  pub greatest : (j : ℕ) × (a < j) × (j ≤ b) × (excess l j ≡ excess l a +ℤ x.greatest)

-- the n bits from position p have this number
pub record IsNumberAt (l : List Bool) (p n bits : ℕ) : Type 0 where
  pub within : p + n ≤ length l
  pub valued : bits ≡ number (part l p n)

-- the position at which block k of `size` bits begins, or the end of the list
abbrev pub start_of : List Bool → ℕ → ℕ → ℕ
start_of l size k = min (k * size) (length l)

-- x is the node over the blocks from i up to e, and over none past the end of the list
pub record Covers (l : List Bool) (size i e : ℕ) (x : Node) : Type 0 where
  pub part : IsPart l (start_of l size i) (start_of l size e) x ⊎ ((length l ≤ i * size) × (x ≡ empty_node))

-- in a tree with `first` nodes above its leaves, node i is above the leaves from s to before e
pub record IsAbove (first i s e : ℕ) : Type 0 where
  pub level : ℕ
  pub height : ℕ
  pub offset : ℕ
  pub levels : 2 ^ (level + height) ≡ first + 1
  pub inside : offset < 2 ^ level
  pub position : i + 1 ≡ 2 ^ level + offset
  pub from : s ≡ offset * 2 ^ height
  pub upto : e ≡ offset * 2 ^ height + 2 ^ height

-- from node i on each node covers its part
abbrev pub CoveredFrom : List Bool → ℕ → ℕ → List Node → ℕ → Type 0
CoveredFrom l size first nodes i = (m s e : ℕ) → i ≤ m → IsAbove first m s e → Covers l size s e (slice_index_or nodes m empty_node)

-- the leaves of a list that is not too long cover its blocks
pub record AreLeaves (l : List Bool) (size first : ℕ) (nodes : List Node) : Type 0 where
  pub short : length l < 2 ^ 63
  pub covered : CoveredFrom l size first nodes first

-- the nodes are a tree over the blocks of the list
pub record IsMinMax (l : List Bool) (size first : ℕ) (nodes : List Node) : Type 0 where
  pub height : ℕ
  pub levels : 2 ^ height ≡ first + 1
  pub fits : length l ≤ (first + 1) * size
  pub covered : CoveredFrom l size first nodes 0
  pub some : 0 < size
  pub short : length l < 2 ^ 63
  pub small : first < 2 ^ 63

-- what a search looks for in a list in blocks of `size` bits: a sum that is `rise` above the one before the position `from`
pub record Sought : Type 0 where
  pub bits : List Bool
  pub size : ℕ
  pub from : ℕ
  pub rise : ℤ

abbrev pub sought : List Bool → ℕ → ℕ → ℤ → Sought
sought l size from r = record { bits = l; size = size; from = from; rise = r }

-- the sum itself
abbrev pub target : Sought → ℤ
target s = excess s.bits s.from +ℤ s.rise

-- position p is one that a search from the position `from` reaches
abbrev pub IsAfter : (back : Bool) → ℕ → ℕ → Type 0
IsAfter false from p = from ≤ p
IsAfter true from p = p < from

-- a search has passed the positions up to p, none of which has its sum, which is `left` above the one before p
pub record Passed (back : Bool) (s : Sought) (p : ℕ) (left : ℤ) : Type 0 where
  pub inside : s.from ≤ length s.bits
  pub after : IsAfter back s.from p
  pub remains : excess s.bits p +ℤ left ≡ target s
  pub none : (k : ℕ) → IsBetween back s.from p k → sum_past back s.bits k ≢ target s

-- no position that a search can reach has its sum
abbrev pub HasNone : (back : Bool) → Sought → Type 0
HasNone false s = (k : ℕ) → s.from ≤ k → k < length s.bits → sum_past false s.bits k ≢ target s
HasNone true s = (k : ℕ) → k < s.from → sum_past true s.bits k ≢ target s

-- a position of the blocks from i up to e has the sum
abbrev pub HasPosition : (back : Bool) → Sought → ℕ → ℕ → Type 0
HasPosition back s i e = (k : ℕ) × (start_of s.bits s.size i ≤ k) × (k < start_of s.bits s.size e) × (sum_past back s.bits k ≡ target s)

-- the first position with the sum is in the blocks from i up to e, before which the search has passed all
pub record IsAhead (back : Bool) (s : Sought) (i e : ℕ) (left : ℤ) : Type 0 where
  pub passed : Passed back s (start_of s.bits s.size (edge back i e)) left
  pub position : HasPosition back s i e

-- a search has passed the block `begin`
pub record BeginsAt (back : Bool) (s : Sought) (first : ℕ) (nodes : List Node) (begin : ℕ) (left : ℤ) : Type 0 where
  pub tree : IsMinMax s.bits s.size first nodes
  pub some : begin * s.size < length s.bits
  pub passed : Passed back s (start_of s.bits s.size (edge back (begin + 1) begin)) left

-- the first position with the sum is below the node at `position`
pub record LeadsTo (back : Bool) (s : Sought) (first : ℕ) (nodes : List Node) (position : ℕ) (left : ℤ) : Type 0 where
  pub tree : IsMinMax s.bits s.size first nodes
  pub start : ℕ
  pub stop : ℕ
  pub stands : IsAbove first position start stop
  pub ahead : IsAhead back s start stop left

-- a search has passed the part of the node at `position`
pub record PassedTo (back : Bool) (s : Sought) (first position : ℕ) (left : ℤ) : Type 0 where
  pub start : ℕ
  pub stop : ℕ
  pub stands : IsAbove first position start stop
  pub passed : Passed back s (start_of s.bits s.size (edge back stop start)) left

-- `odd` is `number` without the zeros at its end
pub record IsOddPart (number odd : ℕ) : Type 0 where
  pub zeros : ℕ
  pub splits : number ≡ odd * 2 ^ zeros
  pub ends : odd % 2 ≡ 1

-- `next` is the node over the blocks right past those of `node`, or 0 if there are none
abbrev pub IsBeside : (back : Bool) → ℕ → ℕ → Type 0
IsBeside false node next = IsOddPart (node + 2) (next + 1)
IsBeside true node next = (odd : ℕ) × IsOddPart (node + 1) odd × (next ≡ odd - 2)

-- the child of a node that a search reaches first, and the other one
abbrev pub near_child : (back : Bool) → ℕ → ℕ
near_child false node = 2 * node + 1
near_child true node = 2 * node + 2

abbrev pub far_child : (back : Bool) → ℕ → ℕ
far_child false node = 2 * node + 2
far_child true node = 2 * node + 1

-- whether a node is such another one, and the first one beside it
abbrev pub IsFarChild : (back : Bool) → ℕ → Type 0
IsFarChild false position = position % 2 ≡ 0
IsFarChild true position = position % 2 ≡ 1

abbrev pub beside_far : (back : Bool) → ℕ → ℕ
beside_far false position = position - 1
beside_far true position = position + 1

-- a search reaches the node at `position`, a far child, and has passed the part of the near one; at position 0 there is nothing left to pass
pub record ComesTo (back : Bool) (s : Sought) (first : ℕ) (nodes : List Node) (position : ℕ) (left : ℤ) : Type 0 where
  pub tree : IsMinMax s.bits s.size first nodes
  pub far : 0 < position → IsFarChild back position
  pub passed : 0 < position → PassedTo back s first (beside_far back position) left
  pub none : position ≡ 0 → HasNone back s

-- by its node, a part has the sum that a search needs: `left` above the sum at the end that the search meets first
abbrev pub IsMet : (back : Bool) → Node → ℤ → Type 0
IsMet false x left = IsInRange x left
IsMet true x left = IsInRangeOrStart x (left +ℤ x.total)

abbrev pub left_past : (back : Bool) → ℤ → Node → ℤ
left_past false left x = left -ℤ x.total
left_past true left x = left +ℤ x.total
