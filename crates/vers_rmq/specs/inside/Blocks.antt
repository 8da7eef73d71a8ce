-- What is stored for blocks of 128 items.
use Rattle.std.specs.Prelude.{◌≡◌, ℕ, ◌+◌, ◌-◌, ◌*◌, ◌<◌, ◌≤◌, min, List, length, slice_index, slice_index_or}
use Rattle.vers_rmq.specs.declared.rmq.fast_rmq.TheConstants.{MAX_LEN, BLOCK, PART}
use Rattle.vers_rmq.specs.declared.rmq.fast_rmq.block.BlockMasks.{BlockMasks}
use Rattle.vers_rmq.specs.Minima.{IsFirstLeast}
use Rattle.vers_bits.specs.Bits.{block_count}
use Rattle.vers_rmq.specs.inside.Masks.{AreMasks}

-- the end of block b of n items
abbrev pub block_end : ℕ → ℕ → ℕ
block_end n b = min (BLOCK * b + BLOCK) n

-- the masks of no items
abbrev pub no_masks : BlockMasks
no_masks = record { whole = record { prefixes = 0; suffixes = 0 }; parts = record { prefixes = 0; suffixes = 0 } }

-- what is stored for block b: the position of its least item as its distance from the block's start, that item, and its masks
pub record IsBlock (items : List ℕ) (b position least : ℕ) (masks : BlockMasks) : Type 0 where
  pub whole : AreMasks items BLOCK (BLOCK * b) (block_end (length items) b) masks.whole
  pub parts : AreMasks items PART (BLOCK * b) (block_end (length items) b) masks.parts
  pub best : IsFirstLeast items (BLOCK * b) (block_end (length items) b - 1) (BLOCK * b + position)
  pub value : least ≡ slice_index items (BLOCK * b + position)

-- what is stored for the first n blocks
pub record AreBlocks (items : List ℕ) (n : ℕ) (minima positions : List ℕ) (masks : List BlockMasks) : Type 0 where
  pub minima_counted : length minima ≡ n
  pub positions_counted : length positions ≡ n
  pub masks_counted : length masks ≡ n
  pub block : (b : ℕ) → b < n → IsBlock items b (slice_index positions b) (slice_index minima b) (slice_index_or masks b no_masks)

-- what is stored for all blocks
pub record AreAllBlocks (items minima positions : List ℕ) (masks : List BlockMasks) : Type 0 where
  pub bounded : length items ≤ MAX_LEN
  pub blocks : AreBlocks items (block_count BLOCK (length items)) minima positions masks
