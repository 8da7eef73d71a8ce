-- The content of a table of bytes of parentheses: the sums along a byte's eight bits, from one of its ends.
use Rattle.std.specs.Prelude.{◌≡◌, ◌≢◌, ℕ, ◌+◌, ◌-◌, ◌*◌, ◌/◌, ◌%◌, ◌^◌, ◌<◌, ◌≤◌, ◌⊎◌, Bool, true, false, List, length, ℤ, pos, ◌+ℤ◌, ◌-ℤ◌, ◌≤ℤ◌}
use Rattle.vers_bits.specs.Bits.{number}
use Rattle.vers_trees.specs.Excess.{excess}

-- the eight bits of a byte, least significant first
pub record IsByte (bits : List Bool) (byte : ℕ) : Type 0 where
  pub eight : length bits ≡ 8
  pub valued : number bits ≡ byte

-- the sum after n steps: from the start a one adds 1 and a zero takes 1, from the end a one takes 1 and a zero adds 1
abbrev pub sum_along : (from_end : Bool) → List Bool → ℕ → ℤ
sum_along false bits n = excess bits n
sum_along true bits n = excess bits (8 - n) -ℤ excess bits 8

-- the position of the bit of a step
abbrev pub position_along : (from_end : Bool) → ℕ → ℕ
position_along false step = step
position_along true step = 7 - step

-- an entry's greatest sum and its least, each plus 8
abbrev pub greatest_in : ℕ → ℕ
greatest_in entry = entry % 32

abbrev pub least_in : ℕ → ℕ
least_in entry = entry / 32 % 32

-- the position that an entry has for the sum that is x, plus 8
abbrev pub position_in : ℕ → ℕ → ℕ
position_in entry x = entry / 2 ^ (10 + 3 * x) % 8

-- p is the first position, within n steps, past which the sum, plus 8, is x
pub record IsFirstMet (from_end : Bool) (bits : List Bool) (n x p : ℕ) : Type 0 where
  pub step : ℕ
  pub within : step < n
  pub sum : sum_along from_end bits (step + 1) +ℤ pos 8 ≡ pos x
  pub first : (k : ℕ) → k < step → sum_along from_end bits (k + 1) +ℤ pos 8 ≢ pos x
  pub position : p ≡ position_along from_end step

-- a table entry of eight bits: the greatest and the least excess along them, each plus 8, and for each excess between these the first position that reaches it, 7 for all others
pub record IsEntry (from_end : Bool) (bits : List Bool) (entry : ℕ) : Type 0 where
  pub bounded : greatest_in entry ≤ 16
  pub high : (k : ℕ) → k < 8 → (sum_along from_end bits (k + 1) +ℤ pos 8) ≤ℤ pos (greatest_in entry)
  pub low : (k : ℕ) → k < 8 → pos (least_in entry) ≤ℤ (sum_along from_end bits (k + 1) +ℤ pos 8)
  pub met : (x : ℕ) → least_in entry ≤ x → x ≤ greatest_in entry → IsFirstMet from_end bits 8 x (position_in entry x)
  pub absent : (x : ℕ) → x ≤ 16 → (x < least_in entry) ⊎ (greatest_in entry < x) → position_in entry x ≡ 7
