-- The laws of indexed lists, as statements.
use Rattle.std.specs.Prelude.{◌+◌, ◌*◌, ◌≤◌, Bool, List, length}
use Rattle.vers_bits.specs.Bits.{limb_count}
use Rattle.vers_rank.specs.Queries.{superblock_count, index_size}

-- the index takes at most 56 bytes for each superblock and 32 more
abbrev pub IndexIsSmall : Type 0
IndexIsSmall = (bits : List Bool)
    → index_size bits ≤ 8 * limb_count (length bits) + 56 * superblock_count (length bits) + 32
