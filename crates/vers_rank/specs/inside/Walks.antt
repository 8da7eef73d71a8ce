-- What the walks over the positions of the ones (or zeros) of an indexed list keep.
use Rattle.std.specs.Prelude.{◌≡◌, ℕ, ◌+◌, ◌-◌, ◌*◌, ◌/◌, ◌%◌, ◌<◌, ◌≤◌, ◌++◌, Bool, true, List, length, drop, slice_index, slice_index_or, false, if◌then◌else◌}
use Rattle.std.specs.Int.{bit_at}
use Rattle.vers_bits.specs.Bits.{is_bit, count, positions}
use Rattle.vers_rank.specs.declared.fast_rs_vec.reader.Reader.{Reader}
use Rattle.vers_rank.specs.declared.fast_rs_vec.bit_set_iter.ChunkWalk.{ChunkWalk}
use Rattle.vers_rank.specs.declared.fast_rs_vec.TheConstants.{BLOCK}
use Rattle.vers_rank.specs.Walks.{chunk_count}
use Rattle.vers_rank.specs.inside.Offsets.{last_first}

-- a list of bits, and the bit whose positions are counted
pub record PositionsOf : Type 0 where
  pub bits : List Bool
  pub bit : Bool

-- position p has the bit, and so do at least lo and fewer than hi positions before it
pub record IsWithin (bit : Bool) (bits : List Bool) (lo hi p : ℕ) : Type 0 where
  pub inside : p < length bits
  pub holds : is_bit bit (slice_index_or bits p false) ≡ true
  pub low : lo ≤ count bit bits p
  pub high : count bit bits p < hi

-- inside the list, the ones of the word are the positions of limb k from number lo on and below number hi
pub record IsMarked (bit : Bool) (bits : List Bool) (k word lo hi : ℕ) : Type 0 where
  pub fits : word < 18446744073709551616
  pub sound : (i : ℕ) → i < 64 → bit_at word i ≡ 1 → 64 * k + i < length bits → IsWithin bit bits lo hi (64 * k + i)
  pub complete : (i : ℕ) → i < 64 → IsWithin bit bits lo hi (64 * k + i) → bit_at word i ≡ 1

-- the ones of the word are the limb's positions from number next, and those up to number edge are in the limb's block; a reader whose edge is 0 has read nothing
pub record IsReading (bit : Bool) (bits : List Bool) (reader : Reader) : Type 0 where
  pub before : count bit bits (64 * reader.limb) ≤ reader.next
  pub after : reader.next ≤ count bit bits (64 * reader.limb + 64)
  pub begun : 0 < reader.word → 0 < reader.edge
  pub marks : 0 < reader.edge → IsMarked bit bits reader.limb reader.word reader.next (count bit bits (length bits))
  pub in_block : reader.edge ≤ count bit bits (BLOCK * (reader.limb / 8) + BLOCK)

-- the ones of the word are the limb's positions below number next, and those from number edge are in the limb's block
pub record IsReadingBack (bit : Bool) (bits : List Bool) (reader : Reader) : Type 0 where
  pub inside : 64 * reader.limb ≤ length bits
  pub before : count bit bits (64 * reader.limb) ≤ reader.next
  pub after : reader.next ≤ count bit bits (64 * reader.limb + 64)
  pub marks : IsMarked bit bits reader.limb reader.word 0 reader.next
  pub within : (i : ℕ) → i < 64 → bit_at reader.word i ≡ 1 → 64 * reader.limb + i < length bits
  pub in_block : count bit bits (BLOCK * (reader.limb / 8)) ≤ reader.edge

-- a word, or its complement for zeros
abbrev pub marked : Bool → ℕ → ℕ
marked bit word = if bit then word else 18446744073709551615 - word

-- ---- chunks of 16 bits

-- the positions of the ones (or zeros) from p on
unfoldable pub positions_from : Bool → List Bool → ℕ → List ℕ
positions_from bit bits p = drop (count bit bits p) (positions bit bits)

-- the positions that a walk by chunks has still to return: the remaining ones of the last chunk, and those after it
abbrev pub chunk_positions_left : List Bool → ChunkWalk → List ℕ
chunk_positions_left bits walk = last_first walk.start walk.offsets walk.left ++ positions_from walk.bit bits walk.end

-- how many chunks a walk has still to load
abbrev pub chunks_unread : List Bool → ChunkWalk → ℕ
chunks_unread bits walk = chunk_count (length bits - walk.end)

-- the buffer has the offsets of positions of the list, and up to the list's end whole chunks were loaded
pub record IsChunkWalkOf (bits : List Bool) (walk : ChunkWalk) : Type 0 where
  pub room : length walk.offsets ≡ 16
  pub few : walk.left ≤ 16
  pub within : walk.end ≤ length bits
  pub whole : walk.end < length bits → walk.end % 16 ≡ 0
  pub inside : (j : ℕ) → j < walk.left → walk.start + slice_index walk.offsets j < length bits
