-- Queries for the symbol of the low bits of a number, of as many bits as symbols have.
use Rattle.std.specs.Prelude.{ℕ, ◌%◌, ◌^◌, ◌&&◌, nat_le, nat_lt, List, length, slice_get, Option, Some, None, if◌then◌else◌}
use Rattle.vers_wavelet.specs.Symbols.{Symbols, occurrences}

-- the symbol of the low bits of a number
abbrev pub low_bits_of : Symbols → ℕ → ℕ
low_bits_of symbols s = s % 2 ^ symbols.width

-- the positions from a to before b that have the symbol of a number
abbrev pub positions_of : Symbols → ℕ → ℕ → ℕ → List ℕ
positions_of symbols a b s = occurrences symbols.items a b (low_bits_of symbols s)

-- how many of the first `end` positions have a symbol, if there are that many
abbrev pub rank_before : Symbols → ℕ → ℕ → Option ℕ
rank_before symbols end s = if nat_le end (length symbols.items) then Some (length (positions_of symbols 0 end s)) else None

-- how many positions of a range have a symbol; the range begins at a position and ends between it and the length
abbrev pub rank_between : Symbols → ℕ → ℕ → ℕ → Option ℕ
rank_between symbols a b s =
    if nat_lt a (length symbols.items) && (nat_le b (length symbols.items) && nat_le a b)
    then Some (length (positions_of symbols a b s))
    else None

-- the position of occurrence r, from 0, of the symbol of a number from position o; `None` if there are at most r
abbrev pub position_from : Symbols → ℕ → ℕ → ℕ → Option ℕ
position_from symbols o r s = slice_get (positions_of symbols o (length symbols.items) s) r
