-- Counts of symbols at the first positions of some levels, and the elements of a range by size in terms of them.
use Rattle.std.specs.Prelude.{ℕ, zero, suc, ◌+◌, ◌<◌, ◌≤◌, Bool, cond, List, nat_lt, nat_eq, slice_index, slice_range}
use Rattle.vers_wavelet.specs.Symbols.{by_size}
use Rattle.vers_wavelet.specs.inside.Levels.{value, values}

-- how many of the first n positions pass the test
abbrev pub count_positions : (ℕ → Bool) → ℕ → ℕ
count_positions test zero = 0
count_positions test (suc n) = count_positions test n + cond (test n) 1 0

-- how many of the symbols at the first n positions are less than y
unfoldable pub count_below : List (List Bool) → ℕ → ℕ → ℕ
count_below ls y n = count_positions (λ p. nat_lt (value ls p) y) n

-- how many of the symbols at the first n positions equal s
unfoldable pub count_equal : List (List Bool) → ℕ → ℕ → ℕ
count_equal ls s n = count_positions (λ p. nat_eq (value ls p) s) n

-- x is element i by size, from 0, of the symbols at the positions from a to before b: at most i of these are less than
-- x, and more than i are at most x
pub record IsKthInRange (ls : List (List Bool)) (a b i x : ℕ) : Type 0 where
  pub less : count_below ls x b ≤ count_below ls x a + i
  pub more : count_below ls (x + 1) a + i < count_below ls (x + 1) b

-- element i by size, from 0, of the symbols at the positions from a to before b
unfoldable pub kth_symbol : List (List Bool) → ℕ → ℕ → ℕ → ℕ
kth_symbol ls a b i = slice_index (by_size (slice_range (values ls b) a b)) i
