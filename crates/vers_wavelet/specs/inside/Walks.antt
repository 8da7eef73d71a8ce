-- Walks through the levels: down along the digits of a symbol, down to an element by size, and back up. At level k,
-- from 0, a symbol has lost its k highest digits: `drop k ls` are the levels of the others.
use Rattle.std.specs.Prelude.{◌≡◌, ℕ, ◌+◌, ◌-◌, ◌%◌, ◌^◌, ◌<◌, ◌≤◌, Bool, List, length, drop, Option, IsSome, IfSome}
use Rattle.vers_wavelet.specs.inside.Counts.{count_below, IsKthInRange}
use Rattle.vers_wavelet.specs.inside.Levels.{final_position, value}

-- a walk along the digits of s led from the range from `from` to before `to` to that from a to before b at level k:
-- `less` symbols of the first range are less than s by their k highest digits, the second range has all others that are
-- less than s, and its ends lead to the same final positions
pub record Narrowed (ls : List (List Bool)) (s from to k a b less : ℕ) : Type 0 where
  pub less_is : less + count_below (drop k ls) (s % 2 ^ (length ls - k)) b + count_below ls (s % 2 ^ length ls) from
      ≡ count_below (drop k ls) (s % 2 ^ (length ls - k)) a + count_below ls (s % 2 ^ length ls) to
  pub from_is : final_position (drop k ls) s a ≡ final_position ls s from
  pub to_is : final_position (drop k ls) s b ≡ final_position ls s to

-- to find element j by size of the range from `from` to before `to`, add to a number element i by size of the range
-- from a to before b at level k
pub record ReducesKth (ls : List (List Bool)) (from to j k a b i number : ℕ) : Type 0 where
  pub each : (x : ℕ) → x < 2 ^ (length ls - k) → IsKthInRange (drop k ls) a b i x → IsKthInRange ls from to j (number + x)

-- the j lowest digits of a number of n digits are zeros
pub record HasRoom (n j number : ℕ) : Type 0 where
  pub clear : number % 2 ^ j ≡ 0
  pub fits : number + 2 ^ j ≤ 2 ^ n

-- position q at level k has a symbol with the remaining digits of s, and leads along them to the final position
-- `target`
pub record LeadsTo (ls : List (List Bool)) (n s target k q : ℕ) : Type 0 where
  pub within : q < n
  pub holds : value (drop k ls) q ≡ s % 2 ^ (length ls - k)
  pub leads : final_position (drop k ls) s q ≡ target

-- the position at level k that a climb along the digits of s reaches from the final position `target`: one that leads
-- back to it, or `None`, which is allowed only if `target` is past all final positions of s
pub record HasClimbed (ls : List (List Bool)) (n s target k : ℕ) (position : Option ℕ) : Type 0 where
  pub reached : IfSome position (λ q. LeadsTo ls n s target k q)
  pub some : target < final_position ls s n → IsSome position
