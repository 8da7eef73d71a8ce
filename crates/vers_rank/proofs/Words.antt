-- How many bits of a part of a word are ones or zeros.
use Rattle.vers_rank.proofs.Names.{and_mask, bit_and, zero, suc, ap, ◌∙◌, ◌+◌, ◌/◌, add_comm, ◌≡◌, ℕ, ◌-◌, ◌*◌, ◌%◌, ◌^◌, ◌<◌, ◌≤◌, Bool, true, refl, arith, count_ones, ones-le, mod_below, pow_pos, mod-pow-add, ones_cat, cases_Bool, eqb, eqb-true, agree_below_at, w64, bit_at, bit_at_not, bit_at-lt, marked, ones, held_in}

pub ones_few : (w j : ℕ) → count_ones (w % 2 ^ j) ≤ j
ones_few w j = ones-le j (w % 2 ^ j) (mod_below w (2 ^ j) (pow_pos j))

pub masked_byte : (n : ℕ) → bit_and n 255 ≡ n % 256
masked_byte n = and_mask n 8

-- the low bits of a word, in two parts
pub ones_split : (w i d : ℕ) → count_ones (w % 2 ^ (i + d)) ≡ count_ones (w % 2 ^ i) + count_ones (w / 2 ^ i % 2 ^ d)
ones_split w i d =
    let parts : w % 2 ^ (i + d) ≡ w / 2 ^ i % 2 ^ d * 2 ^ i + w % 2 ^ i = ap (λ n. w % 2 ^ n) (add_comm i d) ∙ mod-pow-add w d i in
    rw (parts, ones_cat i (w / 2 ^ i % 2 ^ d) (w % 2 ^ i) (mod_below w (2 ^ i) (pow_pos i))) (add_comm _ _)

pub held_in_split : (b : Bool) (w i d : ℕ) → held_in b w (i + d) ≡ held_in b w i + held_in b (w / 2 ^ i) d
unfolding held_in
held_in_split b w i d = grind (arith, cases_Bool b, ones_split w i d, ones_few w i, ones_few (w / 2 ^ i) d)

pub held_in_split_next : (b : Bool) (w i d : ℕ) → held_in b w (i + d + 1) ≡ held_in b w i + held_in b (w / 2 ^ i) (d + 1)
held_in_split_next b w i d = ap (held_in b w) (omega arith) ∙ held_in_split b w i (d + 1)

pub ruleset splits = (held_in_split, held_in_split_next)

-- one bit more
pub one_more : (w i : ℕ) → count_ones (w % 2 ^ (i + 1)) ≡ count_ones (w % 2 ^ i) + bit_at w i
unfolding ones
one_more w i = ones_split w i 1 ∙ ap (λ n. count_ones (w % 2 ^ i) + n) (eqb-true _ _ (agree_below_at (λ b. eqb (count_ones b) b) (λ _. true) 2 (w / 2 ^ i % 2) refl (omega arith)))

-- the ones of a word and of its complement
turned : (w j : ℕ) → w < 18446744073709551616 → j ≤ 64 → count_ones ((18446744073709551615 - w) % 2 ^ j) + count_ones (w % 2 ^ j) ≡ j
turned w zero h hj = omega (arith, ones_few w 0, ones_few (18446744073709551615 - w) 0)
turned w (suc j) h hj =
    let size : suc j ≡ j + 1 = omega arith in
    rw size (omega (arith, one_more w j, one_more (18446744073709551615 - w) j, bit_at_not w64 w j h hj, bit_at-lt w j, turned w j h (omega arith)))

-- if the positions that have the bit are ones
pub held_in_marked : (b : Bool) (w j : ℕ) → w < 18446744073709551616 → j ≤ 64 → held_in true (marked b w) j ≡ held_in b w j
unfolding held_in
held_in_marked b w j h hj = grind (arith, cases_Bool b, turned w j h hj)

pub ruleset turns = (held_in_marked)
