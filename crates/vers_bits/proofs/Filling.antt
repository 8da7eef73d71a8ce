-- Words that are all alike.
use Rattle.vers_bits.proofs.Names.{◌≡◌, ℕ, ◌/◌, ◌%◌, ◌<◌, Bool, true, false, cond, eqb, List, get_or, replicate, ap, arith, bit_at, bit_at_ones, bit_at-zero, get_or-replicate, length-replicate, limb_count, word_bits, CutsTo}
use Rattle.vers_bits.proofs.Words.{word_bits_are}
use Rattle.vers_bits.proofs.Edits.{cut_holds}

-- a word of 64 equal bits
pub equal_digits : (b : Bool) (i : ℕ) → i < 64 → eqb (bit_at (cond b 18446744073709551615 0) i) 1 ≡ b
equal_digits true i h = ap (λ m. eqb m 1) (bit_at_ones 64 i h)
equal_digits false i h = grind (arith, bit_at-zero)

pub filled_bits : {ws vs : List ℕ} {n : ℕ} → CutsTo ws vs n → (b : Bool) (w : ℕ) → w ≡ cond b 18446744073709551615 0 → ws ≡ replicate (limb_count n) w → word_bits vs n ≡ replicate n b
filled_bits {ws} {vs} {n} cuts b w digits filled =
    word_bits_are vs n (replicate n b) (length-replicate n b)
    (λ i h.
    let word : get_or ws (i / 64) 0 ≡ cond b 18446744073709551615 0 = grind (arith, get_or-replicate) in
    rw (cuts.below i h, word, get_or-replicate n i b false h) (equal_digits b (i % 64) (omega arith)))

pub ruleset fills = (filled_bits, cut_holds)
