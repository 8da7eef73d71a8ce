-- Worked rows of the tree of excesses over 11100111 01011100 10010000 in blocks of 8 bits: its root, and the left child of the root.
use Rattle.std.proofs.Common.{◌≡◌, ◌≢◌, ◌+◌, ◌<◌, ◌≤◌, ℕ, zero, suc, Bool, true, sym, subst, inl, inr, refl, arith}
use Rattle.std.proofs.lemmas.Bool.{and_parts, cases_lt}
use Rattle.std.specs.Prelude.{◌&&◌, ◌≤ℤ◌, ◌+ℤ◌, ℤ, pos}
use lib.Dec.{T}
use lib.Signed.{le_z}
use Rattle.vers_bits.specs.Bits.{count}
use Rattle.vers_trees.specs.Excess.{excess}
use Rattle.vers_trees.specs.Rows.{three_bytes}
use Rattle.vers_trees.specs.inside.MinMax.{IsPart}

-- whether each number from 1 to n passes a test
abbrev all_to : (ℕ → Bool) → ℕ → Bool
all_to p zero = true
all_to p (suc n) = p (suc n) && all_to p n

passes : (p : ℕ → Bool) (n j : ℕ) → all_to p n ≡ true → 0 < j → j ≤ n → p j ≡ true
passes p zero j all some few = absurd (omega (arith, some, few))
passes p (suc n) j all some few =
    let parts = and_parts (p (suc n)) (all_to p n) all in
    elim (cases_lt j (suc n)) [
      | inl less ↦ passes p n j parts.1 some (omega (arith, less))
      | inr more ↦ subst (λ k. p k ≡ true) (omega (arith, more, few)) parts.0
    ]

-- the excess of three bytes is from `least` to `greatest` past each of the first n positions
from_least : (least : ℤ) (n : ℕ) → all_to (λ j. le_z least (excess three_bytes j)) n ≡ true → (j : ℕ) → 0 < j → j ≤ n → least ≤ℤ excess three_bytes j
from_least least n all j some few = record { le = subst T (sym (passes (λ j. le_z least (excess three_bytes j)) n j all some few)) tt }

to_greatest : (greatest : ℤ) (n : ℕ) → all_to (λ j. le_z (excess three_bytes j) greatest) n ≡ true → (j : ℕ) → 0 < j → j ≤ n → excess three_bytes j ≤ℤ greatest
to_greatest greatest n all j some few = record { le = subst T (sym (passes (λ j. le_z (excess three_bytes j) greatest) n j all some few)) tt }

-- the root, over all 24 bits
pub root-three_bytes-8 : IsPart three_bytes 0 24 (record { total = pos 0; least = pos 0; greatest = pos 6 })
unfolding excess count
root-three_bytes-8 = record {
  total = refl;
  low = from_least (pos 0) 24 refl;
  high = to_greatest (pos 6) 24 refl;
  least = (24, omega arith, omega arith, refl);
  greatest = (14, omega arith, omega arith, refl);
}

-- its left child, over the first two blocks
pub left-three_bytes-8 : IsPart three_bytes 0 16 (record { total = pos 4; least = pos 1; greatest = pos 6 })
unfolding excess count
left-three_bytes-8 = record {
  total = refl;
  low = from_least (pos 1) 16 refl;
  high = to_greatest (pos 6) 16 refl;
  least = (1, omega arith, omega arith, refl);
  greatest = (14, omega arith, omega arith, refl);
}
