-- What the table of positions in a byte holds.
use Rattle.vers_rank.proofs.Names.{ap, sym, subst, ◌∙◌, ◌+◌, ◌≡◌, ℕ, ◌-◌, ◌*◌, ◌%◌, ◌^◌, ◌<◌, ◌≤◌, Bool, true, refl, arith, ◌&&◌, ◌||◌, not, ltb, leb, slice_index_or, get_or, List, chunk, get_or-chunk, count_ones, bit_and, agree_below_at, and_parts, ltb-true, leb-true, lt-ltb, agree_below, ones}
use Rattle.std.proofs.Math.Pow.{mod-mod-pow}
use Rattle.vers_rank.proofs.Tables.{tried, tries}
use Rattle.vers_rank.specs.declared.word.TheConstants.{POSITIONS}
use Rattle.vers_rank.proofs.Words.{ones_few, masked_byte}

-- number q of the ones of the byte v, if it has one, is at p
is_position : ℕ → ℕ → ℕ → Bool
is_position v q p = not (ltb q (count_ones v)) || (ltb p 8 && (leb (count_ones (v % 2 ^ p)) q && ltb q (count_ones (v % 2 ^ (p + 1)))))

abbrev pub IsPosition : ℕ → ℕ → ℕ → Type 0
IsPosition v q p = (p < 8) × (count_ones (v % 2 ^ p) ≤ q) × (q < count_ones (v % 2 ^ (p + 1)))

-- each entry of the table is tried
are_positions : ℕ → List ℕ → Bool
are_positions v entries = agree_below (λ q. is_position v q (get_or entries q 0)) (λ _. true) 8

entry_at : (v q : ℕ) → v < 256 → q < 8 → q < count_ones v → IsPosition v q (slice_index_or POSITIONS (8 * v + q) 0)
unfolding is_position are_positions tries ones
entry_at v q hv hq has =
    let all : are_positions v (chunk (8 * v) 8 POSITIONS) ≡ true = tried are_positions 256 v POSITIONS refl hv in
    let here : is_position v q (get_or (chunk (8 * v) 8 POSITIONS) q 0) ≡ true = agree_below_at (λ q. is_position v q (get_or (chunk (8 * v) 8 POSITIONS) q 0)) (λ _. true) 8 q all hq in
    let rest = rw (get_or-chunk (8 * v) 8 POSITIONS q 0 hq, lt-ltb q (count_ones v) has) at here in
    let a = and_parts _ _ rest in
    let b = and_parts _ _ a.1 in
    (ltb-true _ _ a.0, leb-true _ _ b.0, ltb-true _ _ b.1)

-- the low bits of a byte are those of the word
low_bits : (w p : ℕ) → p ≤ 8 → w % 256 % 2 ^ p ≡ w % 2 ^ p
low_bits w p h =
    let e : 8 - p + p ≡ 8 = omega arith in ap (λ n. w % 2 ^ n % 2 ^ p) (sym e) ∙ mod-mod-pow w (8 - p) p

pub position_found : (w q : ℕ) → q < count_ones (w % 2 ^ 8) → IsPosition w q (slice_index_or POSITIONS (8 * bit_and w 255 + q) 0)
position_found w q has =
    let p = slice_index_or POSITIONS (8 * (w % 256) + q) 0 in
    let found = entry_at (w % 256) q (omega arith) (omega (arith, ones_few w 8)) has in
    rw masked_byte (found.0, subst (λ n. count_ones n ≤ q) (low_bits w p (omega (arith, found.0))) found.1, subst (λ n. q < count_ones n) (low_bits w (p + 1) (omega (arith, found.0))) found.2)

pub few_in_byte : (w q : ℕ) → q < count_ones (w % 2 ^ 8) → q < 8
few_in_byte w q h = omega (arith, ones_few w 8)

pub ruleset positions = (few_in_byte, masked_byte)
