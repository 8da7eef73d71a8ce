-- What a search begins with.
use Rattle.std.specs.Prelude.{◌≡◌, ℕ, ◌+◌, ◌-◌, ◌<◌, ◌≤◌, List, false, length, slice_index}
use Rattle.vers_bits.specs.Bits.{select}
use Rattle.vers_sorted.specs.Layout.{first_of, last_of, high_of, low_of, high_parts}

-- v is above the first element and not above the last
pub record IsInside (s : List ℕ) (v : ℕ) : Type 0 where
  pub some : 0 < length s
  pub from : first_of s < v
  pub to : v ≤ last_of s

-- the zeros before and after the elements with the high part of v, and the low part of the first of them
pub record IsBegun (s : List ℕ) (v before after part : ℕ) : Type 0 where
  pub before_is : before ≡ select false (high_parts s) (high_of s v)
  pub after_is : after ≡ select false (high_parts s) (high_of s v + 1)
  pub part_is : part ≡ low_of s (slice_index s (before - high_of s v))
