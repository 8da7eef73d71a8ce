-- The result of a scan over the bits of a part, and its reads.
use Rattle.std.specs.Prelude.{if◌then◌else◌, true, false, ◌&&◌, suc, [], ◌∷◌, slice_index_or, Option, Some, None, ◌≡◌, ℕ, ◌+◌, ◌<◌, ◌≤◌, ◌≢◌, Bool, List, ℤ, ◌+ℤ◌}
use Rattle.vers_bits.specs.Bits.{bit_value}
use Rattle.vers_tally.specs.Reads.{Reads, no_reads}
use Rattle.vers_trees.specs.Excess.{excess}

-- the sum past a position, in the direction of the search
abbrev pub sum_past : (back : Bool) → List Bool → ℕ → ℤ
sum_past false l k = excess l (k + 1)
sum_past true l k = excess l k

-- of two ends of a part the one that a search meets first
abbrev pub edge : (back : Bool) → ℕ → ℕ → ℕ
edge false a b = a
edge true a b = b

-- position k is one that a search passes from the position `from`, at which it begins, on to p; and how far it is before k
abbrev pub IsBetween : (back : Bool) → ℕ → ℕ → ℕ → Type 0
IsBetween false from p k = (from ≤ k) × (k < p)
IsBetween true from p k = (p ≤ k) × (k < from)

abbrev pub up_to : (back : Bool) → ℕ → ℕ
up_to false k = k
up_to true k = k + 1

-- position is the first from `from` on to `end` past which the excess is r above that before `from`
pub record IsRise (back : Bool) (l : List Bool) (from end : ℕ) (r : ℤ) (position : ℕ) : Type 0 where
  pub between : IsBetween back from end position
  pub sum : sum_past back l position ≡ excess l from +ℤ r
  pub first : (k : ℕ) → IsBetween back from (up_to back position) k → sum_past back l k ≢ excess l from +ℤ r

-- there is none up to p, and the excess before p is `rise` above that before `from`
pub record HasNoRise (back : Bool) (l : List Bool) (from p : ℕ) (r rise : ℤ) : Type 0 where
  pub risen : excess l p ≡ excess l from +ℤ rise
  pub none : (k : ℕ) → IsBetween back from p k → sum_past back l k ≢ excess l from +ℤ r

-- how many zeros don't directly follow a one; p is whether a one precedes the list
abbrev pub falls : Bool → List Bool → ℕ
falls p [] = 0
falls p (true ∷ l) = falls true l
falls true (false ∷ l) = falls false l
falls false (false ∷ l) = suc (falls false l)

-- whether a list is empty or begins with a one
abbrev pub is_not_closed : List Bool → Bool
is_not_closed [] = true
is_not_closed (b ∷ l) = b

-- how many ones no zero directly follows
abbrev pub rises : List Bool → ℕ
rises [] = 0
rises (b ∷ l) = bit_value (b && is_not_closed l) + rises l

-- what a scan of n bits adds at most
abbrev pub scan_reads : ℕ → Reads
scan_reads n = record no_reads { data_words = n; rank_calls = n }

-- the same of a scan that begins in a block of n bits
abbrev pub block_reads : ℕ → Reads
block_reads n = record no_reads { data_words = n; rank_calls = n; blocks = 1 }

-- the position after p, if it opens
abbrev pub opened_after : List Bool → ℕ → Option ℕ
opened_after l p = if slice_index_or l (p + 1) false then Some (p + 1) else None
