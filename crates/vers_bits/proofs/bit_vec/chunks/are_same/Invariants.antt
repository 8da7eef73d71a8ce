use Rattle.vers_bits.proofs.Names.{◌≡◌, ◌/◌, ◌<◌, ℕ, [], get_or, length, first_chunks}
use Rattle.vers_bits.proofs.bit_vec.chunks.are_same.Given as goal

abbrev pub invariant-loop-k : goal.invariant-loop-k
invariant-loop-k l = (j : ℕ) → j < l.k → get_or l.chunks j [] ≡ get_or l.other_chunks j []

abbrev pub invariant-loop-k-2 : goal.invariant-loop-k-2
invariant-loop-k-2 l =
    (first_chunks 8 (length l.words / 8) l.words ≡ first_chunks 8 (length l.others / 8) l.others)
    × ((j : ℕ) → j < l.k → get_or l.end j 0 ≡ get_or l.other_end j 0)
