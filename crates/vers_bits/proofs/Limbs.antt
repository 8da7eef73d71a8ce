-- A list of bits made of limbs.
use Rattle.vers_bits.proofs.Names.{◌≡◌, ℕ, suc, ◌*◌, ◌≤◌, List, [], ◌∷◌, ◌++◌, length, ap, ◌∙◌, refl, arith, get_or_append_left, get_or-append_right, length-append, low_bits, word_bits, HoldsBits, flat_map}
use Rattle.vers_bits.proofs.LowBits.{length-low_bits, get_or-low_bits}
use Rattle.vers_bits.proofs.Words.{word_bits_are, length-word_bits, get_or-word_bits, past_words}

pub whole_words : (ws : List ℕ) → word_bits ws (64 * length ws) ≡ flat_map (λ w. low_bits w 64) ws
whole_words [] = word_bits_are [] 0 [] refl (λ i h. absurd (omega arith))
whole_words (w ∷ ws) =
    let rest : word_bits ws (64 * length ws) ≡ flat_map (λ v. low_bits v 64) ws = whole_words ws in
    word_bits_are (w ∷ ws) (64 * suc (length ws)) (low_bits w 64 ++ flat_map (λ v. low_bits v 64) ws)
    (length-append (low_bits w 64) (flat_map (λ v. low_bits v 64) ws) ∙ omega (arith, length-low_bits w 64, length-word_bits ws (64 * length ws), ap length rest))
    (λ i h. grind (arith, rest, get_or_append_left, length-low_bits, get_or-low_bits, get_or-append_right, get_or-word_bits))

pub whole_hold : (ws : List ℕ) → 64 * length ws ≤ 18446744073709551552 → HoldsBits ws (64 * length ws)
whole_hold ws h = grind (arith, past_words)

pub ruleset from_words = (whole_words, whole_hold)
