-- The positions of the ones among a few bits, and a buffer that hands numbers out from its end.
use Rattle.std.specs.Prelude.{ℕ, zero, suc, ◌+◌, ◌==◌, List, [], ◌∷◌, filter, slice_index}
use Rattle.std.specs.List.{range_with_len}
use Rattle.std.specs.Int.{bit_at}

-- the positions of the ones among the n lowest digits of a number, ascending
abbrev pub ones_below : ℕ → ℕ → List ℕ
ones_below n x = filter (λ i. bit_at x i == 1) (range_with_len 0 n)

-- the first n numbers of a list, the last of them first, each added to a start
abbrev pub last_first : ℕ → List ℕ → ℕ → List ℕ
last_first start numbers zero = []
last_first start numbers (suc n) = (start + slice_index numbers n) ∷ last_first start numbers n
