-- A table of 8 entries for each number, tried from its front to its end.
use Rattle.vers_rank.proofs.Names.{zero, suc, ◌+◌, ◌*◌, ◌≡◌, ◌<◌, ℕ, Bool, true, List, drop, take, arith, ◌&&◌, and_parts, chunk, drop-drop}

-- n numbers from v on pass a test, each with its entries
unfoldable pub tries : (ℕ → List ℕ → Bool) → ℕ → ℕ → List ℕ → Bool
tries test zero v xs = true
tries test (suc n) v xs = test v (take 8 xs) && tries test n (v + 1) (drop 8 xs)

from_number : (test : ℕ → List ℕ → Bool) (n v k : ℕ) (xs : List ℕ) → tries test n v xs ≡ true → k < n → test (v + k) (chunk (8 * k) 8 xs) ≡ true
unfolding tries
from_number test zero v k xs passed h = absurd (omega (arith, h))
from_number test (suc n) v zero xs passed h = grind (arith, and_parts)
from_number test (suc n) v (suc k) xs passed h =
    let number : v + suc k ≡ v + 1 + k = omega arith in
    let position : 8 * suc k ≡ 8 + 8 * k = omega arith in
    rw (number, position, ← drop-drop (8 * k) 8 xs) (from_number test n (v + 1) k (drop 8 xs) (and_parts _ _ passed).1 (omega (arith, h)))

pub tried : (test : ℕ → List ℕ → Bool) (n k : ℕ) (xs : List ℕ) → tries test n 0 xs ≡ true → k < n → test k (chunk (8 * k) 8 xs) ≡ true
tried test n k xs passed h = grind (arith, from_number)
