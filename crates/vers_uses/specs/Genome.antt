-- Which bases are G or C.
use Rattle.std.specs.Prelude.{ℕ, ◌-◌, ◌==◌, ◌||◌, Bool, true, List, drop}
use Rattle.vers_vecs.specs.Bits.{count}

-- whether a base is G (byte 71) or C (byte 67)
abbrev pub is_gc : ℕ → Bool
is_gc base = (base == 71) || (base == 67)

-- how many of the bases from position `from` to before position `to` are G or C
abbrev pub gc_in : List Bool → ℕ → ℕ → ℕ
gc_in gc from to = count true (drop from gc) (to - from)
