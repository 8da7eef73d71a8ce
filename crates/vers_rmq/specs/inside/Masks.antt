-- The masks of a block.
use Rattle.std.specs.Prelude.{◌≡◌, ◌≢◌, ℕ, ◌+◌, ◌-◌, ◌*◌, ◌/◌, ◌<◌, ◌≤◌, min, List}
use Rattle.std.specs.Int.{bit_at}
use Rattle.vers_rmq.specs.declared.rmq.fast_rmq.mask.Masks.{Masks}
use Rattle.vers_rmq.specs.Minima.{IsFirstLeast}

-- p is the last position up to j at which the mask has a 1
pub record IsLastSet (mask j p : ℕ) : Type 0 where
  pub within : p ≤ j
  pub set_at : bit_at mask p ≡ 1
  pub clear : (q : ℕ) → p < q → q ≤ j → bit_at mask q ≡ 0

-- p is the first position from i on at which the mask has a 1
pub record IsFirstSet (mask i p : ℕ) : Type 0 where
  pub within : i ≤ p
  pub set_at : bit_at mask p ≡ 1
  pub clear : (q : ℕ) → i ≤ q → q < p → bit_at mask q ≡ 0

-- the mask with a 1 more, at d
pub record AddsOne (mask more d : ℕ) : Type 0 where
  pub here : bit_at more d ≡ 1
  pub others : (q : ℕ) → q ≢ d → bit_at more q ≡ bit_at mask q

-- the prefix mask of the positions from s to before e, by their distance from s, in parts of w positions: the last 1 up to a position is at the least item from the start of its part to that position
pub record IsPrefixMask (items : List ℕ) (w s e mask : ℕ) : Type 0 where
  pub starts : (j : ℕ) → s + j < e → bit_at mask (w * (j / w)) ≡ 1
  pub positions : (j p : ℕ) → s + j < e → IsLastSet mask j p → IsFirstLeast items (s + w * (j / w)) (s + j) (s + p)
  pub above : (q : ℕ) → e ≤ s + q → bit_at mask q ≡ 0

-- the end of the part of w positions that has the position i past s, among the positions before e
abbrev pub part_end : ℕ → ℕ → ℕ → ℕ → ℕ
part_end w s e i = min (s + (w * (i / w) + w)) e

-- the suffix mask of the positions from k to before e, by their distance from s, in parts of w positions: the first 1 from a position on is at the least item from that position to the end of its part
pub record IsSuffixMask (items : List ℕ) (w s k e mask : ℕ) : Type 0 where
  pub ends : (i : ℕ) → k ≤ s + i → s + i < e → bit_at mask (part_end w s e i - 1 - s) ≡ 1
  pub positions : (i p : ℕ) → k ≤ s + i → s + i < e → IsFirstSet mask i p → IsFirstLeast items (s + i) (part_end w s e i - 1) (s + p)
  pub above : (q : ℕ) → e ≤ s + q → bit_at mask q ≡ 0
  pub below : (q : ℕ) → s + q < k → bit_at mask q ≡ 0

-- both masks of the positions from s on, before e, in parts of w positions
pub record AreMasks (items : List ℕ) (w s e : ℕ) (masks : Masks) : Type 0 where
  pub prefixes : IsPrefixMask items w s e masks.prefixes
  pub suffixes : IsSuffixMask items w s s e masks.suffixes

-- the prefix mask of one part, which begins at f, as far as it is made, to before k; least is the first position of a least item so far
pub record PrefixUpTo (items : List ℕ) (s f k mask least : ℕ) : Type 0 where
  pub base : s ≤ f
  pub some : f < k
  pub first : bit_at mask (f - s) ≡ 1
  pub positions : (j p : ℕ) → f ≤ s + j → s + j < k → IsLastSet mask j p → IsFirstLeast items f (s + j) (s + p)
  pub best : IsFirstLeast items f (k - 1) least
  pub above : (q : ℕ) → k ≤ s + q → bit_at mask q ≡ 0
  pub below : (q : ℕ) → s + q < f → bit_at mask q ≡ 0

-- the suffix mask of one part, which ends before e, as far as it is made, from k on; least is the first position of a least item so far
pub record SuffixFrom (items : List ℕ) (s k e mask least : ℕ) : Type 0 where
  pub base : s ≤ k
  pub some : k < e
  pub last : bit_at mask (e - 1 - s) ≡ 1
  pub positions : (i p : ℕ) → k ≤ s + i → s + i < e → IsFirstSet mask i p → IsFirstLeast items (s + i) (e - 1) (s + p)
  pub best : IsFirstLeast items k (e - 1) least
  pub above : (q : ℕ) → e ≤ s + q → bit_at mask q ≡ 0
  pub below : (q : ℕ) → s + q < k → bit_at mask q ≡ 0
