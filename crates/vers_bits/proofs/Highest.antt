-- The highest bit of a number.
use Rattle.vers_bits.proofs.Names.{◌≡◌, ℕ, suc, ◌-◌, ◌*◌, ◌^◌, ◌<◌, ◌≤◌, ap, ◌∙◌, arith, bit_at, pow-suc, pow_pos, leading_top, le-div, div_below, bit_at_above, count_leading_zeros}

pub top_bit : (n m : ℕ) → 2 ^ m ≤ n → n < 2 ^ suc m → bit_at n m ≡ 1
top_bit n m low high =
    let below : n < 2 * 2 ^ m = omega (arith, pow-suc 2 m) in
    omega (arith, le-div 1 n (2 ^ m) (pow_pos m) (omega arith), div_below n (2 ^ m) 2 (pow_pos m) below)

pub highest_bit : (w : ℕ) → 0 < w → w < 18446744073709551616
    → (count_leading_zeros 64 w < 64) × (bit_at w (63 - count_leading_zeros 64 w) ≡ 1) × ((i : ℕ) → 63 - count_leading_zeros 64 w < i → bit_at w i ≡ 0)
highest_bit w some fits =
    let top = leading_top 64 w some fits in
    let position : 63 - count_leading_zeros 64 w ≡ top.0 = omega (arith, top.1) in
    (omega (arith, top.1), ap (bit_at w) position ∙ top_bit w top.0 top.2 top.3, (λ i h. bit_at_above w (suc top.0) i top.3 (omega (arith, position, h))))
