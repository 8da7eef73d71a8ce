-- How often a range can be halved.
use Rattle.vers_tally.proofs.Names.{◌≡◌, ℕ, zero, suc, ◌+◌, ◌-◌, ◌/◌, ◌^◌, ◌<◌, ◌≤◌, ap, inl, inr, arith, length-digits_of_step, length-digits_of-le, cases_lt}
use Rattle.vers_tally.specs.Reads.{digits}

pub digits_half : (n : ℕ) → 0 < n → digits n ≡ digits (n / 2) + 1
unfolding digits
digits_half n h = length-digits_of_step 2 n (omega arith) h

-- fewer than 2 ^ k has at most k digits
pub digits-le : (k n : ℕ) → n < 2 ^ k → digits n ≤ k
unfolding digits
digits-le k n h = length-digits_of-le 2 k n (omega arith) h

up_to : (f m n : ℕ) → n ≤ f → m ≤ n → digits m ≤ digits n
up_to zero m n few h = let both : m ≡ n = omega arith in omega (arith, ap digits both)
up_to (suc f) m n few h =
    elim (cases_lt 0 m) [
      | inl more ↦ omega (arith, digits_half m more, digits_half n (omega arith), up_to f (m / 2) (n / 2) (omega arith) (omega arith))
      | inr none ↦ let nothing : m ≡ 0 = omega arith in omega (arith, ap digits nothing, digits-le 0 0 (omega arith))
    ]

pub digits_up : (m n : ℕ) → m ≤ n → digits m ≤ digits n
digits_up m n h = up_to n m n (omega arith) h

-- half as many has a digit less
pub digits_halved : (v w : ℕ) → 0 < w → v ≤ w / 2 → digits v + 1 ≤ digits w
digits_halved v w some h = omega (arith, digits_half w some, digits_up v (w / 2) h)

-- the two halves of a range from a to e, as a search takes them
pub upper_half : (a e : ℕ) → a + 1 < e → digits (e - (a + (e - a) / 2) - 1) + 1 ≤ digits (e - a - 1)
upper_half a e h = digits_halved _ _ (omega arith) (omega arith)

pub lower_half : (a e : ℕ) → a + 1 < e → digits (a + (e - a) / 2 - a - 1) + 1 ≤ digits (e - a - 1)
lower_half a e h = digits_halved _ _ (omega arith) (omega arith)

pub ruleset halves = (upper_half, lower_half)
