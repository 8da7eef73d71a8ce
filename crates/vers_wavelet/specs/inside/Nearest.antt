-- The walk to the symbol of a range that is nearest to a symbol s on one side: up, or down if `up` is false. Its trail
-- has the positions of the symbols with the digits of s so far, and beside it the last ones that the trail left on that
-- side.
use Rattle.std.specs.Prelude.{◌≡◌, ℕ, ◌+◌, ◌-◌, ◌*◌, ◌%◌, ◌^◌, ◌<◌, ◌≤◌, Bool, true, false, cond, List, length, Option}
use Rattle.vers_bits.specs.Bits.{bit_value}
use Rattle.vers_wavelet.specs.Symbols.{greatest_up_to, least_from}
use Rattle.vers_wavelet.specs.declared.wavelet.nearest.Trail.{Trail}
use Rattle.vers_wavelet.specs.inside.Walks.{Narrowed, ReducesKth}

-- the least element that is at least s, or, if `up` is false, the greatest that is at most s
abbrev pub nearest : (up : Bool) → List ℕ → ℕ → Option ℕ
nearest true items s = least_from items s
nearest false items s = greatest_up_to items s

-- what is beside a trail of s from the range from `from` to before `to`. If these positions are none, the range has no
-- symbols on that side but those of the trail; otherwise the nearest one that the trail left is the least of the
-- symbols at these positions, or, if `up` is false, the greatest
pub record HasBeside (up : Bool) (ls : List (List Bool)) (n s from to : ℕ) (trail : Trail) : Type 0 where
  pub order : trail.beside.start ≤ trail.beside.end
  pub within : trail.beside.end ≤ n
  pub none : trail.beside.start ≡ trail.beside.end
      → cond up (trail.part.less + (trail.part.end - trail.part.start)) trail.part.less ≡ cond up (to - from) 0
  pub some : trail.beside.start < trail.beside.end
      → (0 < trail.beside.level) × (trail.beside.level ≤ length ls) × (0 < cond up 1 trail.part.less)
  pub found : trail.beside.start < trail.beside.end
      → (number : ℕ) → number + s % 2 ^ (length ls - trail.beside.level + 1) ≡ s % 2 ^ length ls
      → ReducesKth ls from to (cond up (trail.part.less + (trail.part.end - trail.part.start)) (trail.part.less - 1))
      trail.beside.level trail.beside.start trail.beside.end (cond up 0 (trail.beside.end - trail.beside.start - 1))
      (number + bit_value up * 2 ^ (length ls - trail.beside.level))

-- the trail of s at level k: its positions are those of the symbols of the range with the k highest digits of s, and
-- `less` symbols of the range are less by these digits
pub record IsTrail (up : Bool) (ls : List (List Bool)) (n s from to k : ℕ) (trail : Trail) : Type 0 where
  pub order : trail.part.start ≤ trail.part.end
  pub within : trail.part.end ≤ n
  pub few : trail.part.less + (trail.part.end - trail.part.start) ≤ to - from
  pub narrowed : Narrowed ls s from to k trail.part.start trail.part.end trail.part.less
  pub digits : s % 2 ^ (length ls - k) ≤ s % 2 ^ length ls
  pub reduced : (j : ℕ) → ReducesKth ls from to (trail.part.less + j) k trail.part.start trail.part.end j
      (s % 2 ^ length ls - s % 2 ^ (length ls - k))
  pub leaves : HasBeside up ls n s from to trail
