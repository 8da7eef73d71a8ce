-- What an iterator has read of the high parts ahead of its next step.
use Rattle.std.specs.Prelude.{◌≡◌, ℕ, ◌+◌, ◌<◌, ◌≤◌, true, List, length, take, drop}
use Rattle.vers_bits.specs.Bits.{number, count}
use Rattle.vers_sorted.specs.declared.elias_fano.ahead.Ahead.{Ahead}
use Rattle.vers_sorted.specs.Layout.{high_parts}

-- the ones of the high parts before the position are those of the first i elements, and the word is the number of the bits from there on
pub record HasRead (s : List ℕ) (i : ℕ) (ahead : Ahead) : Type 0 where
  pub before : count true (high_parts s) ahead.position ≡ i
  pub within : ahead.position + ahead.len ≤ length (high_parts s)
  pub few : ahead.len ≤ 64
  pub bits : ahead.word ≡ number (take ahead.len (drop ahead.position (high_parts s)))

-- a one that was read ahead is that of element i
abbrev pub IsAhead : List ℕ → ℕ → Ahead → Type 0
IsAhead s i ahead = 0 < ahead.word → HasRead s i ahead

-- the ones of the high parts up to the end of the bits that were read are those of the first i elements, and the word is the number of these bits
pub record HasReadBehind (s : List ℕ) (i : ℕ) (behind : Ahead) : Type 0 where
  pub before : count true (high_parts s) (behind.position + behind.len) ≡ i
  pub within : behind.position + behind.len ≤ length (high_parts s)
  pub few : behind.len ≤ 64
  pub bits : behind.word ≡ number (take behind.len (drop behind.position (high_parts s)))

-- the last one that was read back is that of element i - 1
abbrev pub IsBehind : List ℕ → ℕ → Ahead → Type 0
IsBehind s i behind = 0 < behind.word → HasReadBehind s i behind
