-- How the tables of bytes are filled.
use Rattle.std.specs.Prelude.{◌≡◌, ℕ, ◌+◌, ◌*◌, ◌<◌, ◌≤◌, ◌⊎◌, Bool, true, false, List, [], ◌∷◌, slice_index_or, ℤ, pos, negsuc, ◌+ℤ◌, ◌≤ℤ◌}
use Rattle.vers_trees.specs.Excess.{bit_step}
use Rattle.vers_trees.specs.Bytes.{IsByte, IsEntry, IsFirstMet, sum_along}

-- a table of the entries of all bytes below n
abbrev pub AreEntries : (from_end : Bool) → ℕ → List ℕ → Type 0
AreEntries from_end n entries = (byte : ℕ) → byte < n → (bits : List Bool) → IsByte bits byte → IsEntry from_end bits (slice_index_or entries byte 0)

-- what a step at a bit adds to the sum
abbrev pub step_along : (from_end : Bool) → Bool → ℤ
step_along false bit = bit_step bit
step_along true true = negsuc 0
step_along true false = pos 1

-- what was met in n steps: the sum, the least and the greatest, each plus 8, and for each between the position first met; before the first step the least is above the greatest
pub record HasMet (from_end : Bool) (bits : List Bool) (n value least greatest : ℕ) (positions : List ℕ) : Type 0 where
  pub sum : pos value ≡ sum_along from_end bits n +ℤ pos 8
  pub around : ((n ≡ 0) × (value ≡ 8) × (least ≡ 9) × (greatest ≡ 7)) ⊎ ((least ≤ value) × (value ≤ greatest))
  pub high : (k : ℕ) → k < n → (sum_along from_end bits (k + 1) +ℤ pos 8) ≤ℤ pos greatest
  pub low : (k : ℕ) → k < n → pos least ≤ℤ (sum_along from_end bits (k + 1) +ℤ pos 8)
  pub met : (x : ℕ) → least ≤ x → x ≤ greatest → IsFirstMet from_end bits n x (slice_index_or positions x 7)
  pub absent : (x : ℕ) → (x < least) ⊎ (greatest < x) → slice_index_or positions x 7 ≡ 7

-- the number with these octal digits, the lowest first
abbrev pub octal : List ℕ → ℕ
octal [] = 0
octal (digit ∷ digits) = digit + 8 * octal digits
