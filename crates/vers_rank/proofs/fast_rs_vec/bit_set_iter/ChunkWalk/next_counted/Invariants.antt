use Rattle.vers_rank.proofs.Names.{◌-◌, ◌≡◌, ◌≤◌, length, AddsAtMost, chunk_positions_left, chunks_unread, IsChunkWalkOf, chunk_reads}
use Rattle.vers_rank.proofs.fast_rs_vec.bit_set_iter.ChunkWalk.next_counted.Given as goal

abbrev pub invariant-loop-self : goal.invariant-loop-self
invariant-loop-self g l =
    (IsChunkWalkOf l.bits l.self)
    × (chunk_positions_left l.bits l.self ≡ chunk_positions_left l.bits l.fn.self)
    × (chunks_unread l.bits l.self ≤ chunks_unread l.bits l.fn.self)
    × (AddsAtMost l.fn.tally l.tally (chunk_reads (chunks_unread l.bits l.fn.self - chunks_unread l.bits l.self)))

abbrev pub decreases-loop-self : goal.decreases-loop-self
decreases-loop-self g l = length l.bits - l.self.end
