-- How high and low parts decode to a list, element by element.
use Rattle.std.specs.Prelude.{◌≡◌, ℕ, ◌+◌, ◌-◌, ◌*◌, ◌/◌, ◌^◌, ◌<◌, ◌≤◌, ◌==◌, Bool, true, List, nat_lt, if◌then◌else◌}
use Rattle.vers_bits.specs.Bits.{bit_value, number, part, select}
use Rattle.vers_sorted.specs.Sorted.{order_of}
use Rattle.vers_sorted.specs.declared.elias_fano.parts.Bits.{Bits}
use Rattle.vers_sorted.specs.declared.elias_fano.parts.Walk.{Walk}

-- the position of the first bit that was read ahead
abbrev pub position_ahead : Bits → ℕ
position_ahead ahead = 64 * ahead.limbs - ahead.len

-- bits that were read ahead are those from their position on
pub record AreReadAhead (bits : List Bool) (ahead : Bits) : Type 0 where
  pub few : ahead.len ≤ 64 * ahead.limbs
  pub read : ahead.word ≡ number (part bits (position_ahead ahead) ahead.len)

-- the low part of element i
abbrev pub low_at : List Bool → ℕ → ℕ → ℕ
low_at low width i = number (part low (width * i) width)

-- how far element i is above the first, decoded from the parts
abbrev pub above : List Bool → List Bool → ℕ → ℕ → ℕ
above high low width i = 2 ^ width * (select true high i - i - 1) + number (part low (width * i) width)

-- the one of element i has i + 1 bits or more before it, and no high part above that of the span
pub record IsNear (span width i position : ℕ) : Type 0 where
  pub zero : i + 1 ≤ position
  pub few : position - i - 1 ≤ span / 2 ^ width

-- element 0 is the first one, and each other follows the one before it
abbrev pub follows : Bool → ℕ → ℕ → ℕ → Bool
follows rising i before now = if i == 0 then now == 0 else order_of rising before now

-- element i can be decoded, and follows the one before it
pub record IsDecodable (rising : Bool) (high low : List Bool) (span width i : ℕ) : Type 0 where
  pub near : IsNear span width i (select true high i)
  pub next : follows rising i (above high low width (i - 1)) (above high low width i) ≡ true

-- the parts decode to n elements in order, the last of them at the end of the span
pub record AreDecodable (rising : Bool) (high low : List Bool) (span width n : ℕ) : Type 0 where
  pub each : (i : ℕ) → i < n → IsDecodable rising high low span width i
  pub end : above high low width (n - 1) ≡ span

-- the position of the one before that of element i, 0 if there is none
abbrev pub position_before : List Bool → ℕ → ℕ
position_before high i = if i == 0 then 0 else select true high (i - 1)

-- the least low part that element i may have if its one is at the next position
abbrev pub least_low : Bool → List Bool → ℕ → ℕ → ℕ
least_low rising low width i = if i == 0 then 0 else low_at low width (i - 1) + bit_value rising

-- the one of element i is past the one before, and past a zero too if its low part is less than the least one
abbrev pub StepsUp : Bool → List Bool → List Bool → ℕ → ℕ → Type 0
StepsUp rising high low width i = position_before high i + bit_value (nat_lt (low_at low width i) (least_low rising low width i)) < select true high i

-- a walk has read i elements, each of which steps up
pub record HasRead (rising : Bool) (high low : List Bool) (width i : ℕ) (walk : Walk) : Type 0 where
  pub position : walk.position ≡ position_before high i
  pub least : walk.least ≡ least_low rising low width i
  pub part : position_ahead walk.lows ≡ width * i
  pub ahead : AreReadAhead low walk.lows
  pub each : (j : ℕ) → j < i → StepsUp rising high low width j
