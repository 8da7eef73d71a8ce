-- The number of a list of bits as a sum over the positions of its ones.
use Rattle.vers_bits.proofs.Names.{◌≡◌, ℕ, zero, suc, ◌+◌, ◌*◌, ◌^◌, Bool, true, false, cond, List, [], ◌∷◌, ◌++◌, map, length, get_or, refl, ap, arith, filter, range_with_len, sum_by, sum_by-cons, is_bit, number, positions}
use Rattle.std.proofs.Math.Nat.{pow-suc}

-- numbers that pass a test, moved by one
filter_next : (p q : ℕ → Bool) (a n : ℕ) → ((i : ℕ) → p (i + 1) ≡ q i) → filter p (range_with_len (a + 1) n) ≡ map (λ i. 1 + i) (filter q (range_with_len a n))
filter_next p q a zero h = refl
filter_next p q a (suc n) h = grind (arith, filter_next p q (a + 1) n h)

-- the positions of a bit before the others
pub positions-cons : (bit b : Bool) (l : List Bool) → positions bit (b ∷ l) ≡ cond (is_bit bit b) (0 ∷ []) [] ++ map (λ i. 1 + i) (positions bit l)
unfolding positions
positions-cons bit b l =
    rw (filter_next (λ p. is_bit bit (get_or (b ∷ l) p false)) (λ p. is_bit bit (get_or l p false)) 0 (length l) (λ i. ap (λ (m : ℕ). is_bit bit (get_or (b ∷ l) m false)) (let e : i + 1 ≡ suc i = omega arith in e))) (grind arith)

positions-nil : (bit : Bool) → positions bit [] ≡ []
unfolding positions
positions-nil bit = refl

-- powers of two at positions moved by one are twice as much
twice : (ps : List ℕ) → sum_by (λ i. 2 ^ i) (map (λ i. 1 + i) ps) ≡ 2 * sum_by (λ i. 2 ^ i) ps
twice [] = refl
twice (p ∷ ps) =
    let next : 2 ^ (1 + p) ≡ 2 * 2 ^ p = omega (arith, pow-suc 2 p, ap (λ (m : ℕ). 2 ^ m) (let e : 1 + p ≡ suc p = omega arith in e)) in
    omega (arith, next, twice ps, sum_by-cons (λ i. 2 ^ i) (1 + p) (map (λ i. 1 + i) ps), sum_by-cons (λ i. 2 ^ i) p ps)

-- a number is the sum of the powers of two at the positions of its ones
pub number-positions : (bits : List Bool) → number bits ≡ sum_by (λ i. 2 ^ i) (positions true bits)
number-positions [] = rw (positions-nil true) refl
number-positions (true ∷ bits) = rw (positions-cons true true bits) (omega (arith, number-positions bits, twice (positions true bits), sum_by-cons (λ i. 2 ^ i) 0 (map (λ i. 1 + i) (positions true bits))))
number-positions (false ∷ bits) = rw (positions-cons true false bits) (omega (arith, number-positions bits, twice (positions true bits)))
