-- The errors of makers over iterators.
use Rattle.std.specs.Prelude.{◌≡◌, ℕ, ◌<◌, ◌≤◌, ◌⊎◌, List, length, Option}
use Rattle.std.specs.Iterator.{Drains}
use Rattle.vers_bits.specs.Makers.{StopsAt}
use Rattle.vers_bits.specs.declared.bit_vec.fault.GrowError.{GrowError}
use Rattle.vers_bits.specs.declared.bit_vec.fault.GrowError.TheVariants.{Memory, TooLong}

-- `TooLong`: the iterator yielded more than the greatest length; `Memory`: an allocation failed before that
abbrev pub Refused : {S : Type 0} → (S → Option ℕ → S → Type 0) → S → ℕ → GrowError → Type 0
Refused steps s most TooLong = StopsAt steps s (λ xs x. length xs ≡ most)
Refused steps s most Memory = StopsAt steps s (λ xs x. length xs < most) ⊎ ((xs : List ℕ) × Drains steps s xs × (length xs ≤ most))
