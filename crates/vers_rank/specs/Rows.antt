-- Worked rows of the definitions, which compute.
use Rattle.std.specs.Prelude.{◌≡◌, Bool, false, true, List, [], ◌∷◌, refl}
use Rattle.vers_bits.specs.Bits.{count, block_count}
use Rattle.vers_rank.specs.Queries.{superblock_count, sample_count, index_size}
use Rattle.vers_rank.specs.Walks.{chunk_count}

pub block_count-512 : block_count 512 512 ≡ 1
block_count-512 = refl

pub block_count-8193 : block_count 512 8193 ≡ 17
block_count-8193 = refl

pub superblock_count-0 : superblock_count 0 ≡ 0
superblock_count-0 = refl

pub superblock_count-8193 : superblock_count 8193 ≡ 2
superblock_count-8193 = refl

pub chunk_count-17 : chunk_count 17 ≡ 2
chunk_count-17 = refl

-- the bits 011001010
abbrev bits_011001010 : List Bool
bits_011001010 = false ∷ true ∷ true ∷ false ∷ false ∷ true ∷ false ∷ true ∷ false ∷ []

pub sample_count-011001010 : sample_count bits_011001010 ≡ 2
unfolding count
sample_count-011001010 = refl

-- a limb of 8 bytes, a block entry of 2, a superblock entry of 8, and two samples of 16
pub index_size-011001010 : index_size bits_011001010 ≡ 50
unfolding count
index_size-011001010 = refl

-- no bits have two samples all the same
pub index_size-nothing : index_size [] ≡ 32
unfolding count
index_size-nothing = refl
