-- Numbers of parts of a list.
use Rattle.vers_rank.proofs.Names.{◌≡◌, ℕ, ◌+◌, ◌<◌, ◌≤◌, Bool, List, length, take, drop, arith, Some, None, number, part_number, part_number_or_zero}
use Rattle.std.proofs.lemmas.Bool.Decides.{nat_tests}

pub no_part : (l : List Bool) (p : ℕ) → p ≤ length l → part_number_or_zero l p 0 ≡ Some 0
unfolding part_number_or_zero
no_part l p within = grind (arith, nat_tests)

pub no_part_past : (l : List Bool) (p : ℕ) → length l < p → part_number_or_zero l p 0 ≡ None
unfolding part_number_or_zero
no_part_past l p past = grind (arith, nat_tests)

pub some_part : (l : List Bool) (p n : ℕ) → 0 < n → part_number_or_zero l p n ≡ part_number l p n
unfolding part_number_or_zero part_number
some_part l p n some = grind (arith, nat_tests)

pub whole_part : (l : List Bool) (p n : ℕ) → n ≤ 64 → p + n ≤ length l → part_number_or_zero l p n ≡ Some (number (take n (drop p l)))
unfolding part_number_or_zero
whole_part l p n few within = grind (arith, nat_tests)

pub ruleset parts = (no_part, no_part_past, some_part, whole_part)
