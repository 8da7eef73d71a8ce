-- Lists of bits as numbers, and counts of their bits.
use Rattle.vers_bits.proofs.Names.{◌≡◌, ℕ, zero, suc, ◌/◌, ◌%◌, ◌^◌, ◌<◌, ◌≤◌, Bool, true, false, List, [], ◌∷◌, length, take, drop, get_or, ap, ◌+◌, ◌*◌, ◌∙◌, arith, count_by, bit_at, count_ones, shr-shr, mod-pow-add, bit_at_lowest, bit_at-suc, bit_at-zero, sum_by-cons, pow-suc, get_or-take, get_or-drop, bit_value, number, is_bit, rules, limb}
use lib.Count.{ones_step, ones-ones}

-- the lowest digit, and the others
pub number_odd : (b : Bool) (l : List Bool) → number (b ∷ l) % 2 ≡ bit_value b
number_odd b l = grind arith

pub number_half : (b : Bool) (l : List Bool) → number (b ∷ l) / 2 ≡ number l
number_half b l = grind arith

pub bit_value_le : (b : Bool) → bit_value b ≤ 1
bit_value_le b = grind arith

pub number-lt : (l : List Bool) → number l < 2 ^ length l
number-lt [] = omega arith
number-lt (b ∷ l) = search (rules, bit_value_le, pow-suc, number-lt l)

pub number-drop : (k : ℕ) (l : List Bool) → number (drop k l) ≡ number l / 2 ^ k
number-drop zero l = omega arith
number-drop (suc k) [] = grind arith
number-drop (suc k) (b ∷ l) = grind (arith, number-drop k l, number_half b l, shr-shr (number (b ∷ l)) 1 k)

pub number-take : (k : ℕ) (l : List Bool) → number (take k l) ≡ number l % 2 ^ k
number-take zero l = omega arith
number-take (suc k) [] = grind arith
number-take (suc k) (b ∷ l) = grind (arith, number-take k l, number_half b l, number_odd b l, mod-pow-add (number (b ∷ l)) k 1)

-- digit i of the number is position i of the list
pub bit_at-number : (l : List Bool) (i : ℕ) → bit_at (number l) i ≡ bit_value (get_or l i false)
bit_at-number [] i = bit_at-zero i
bit_at-number (b ∷ l) zero = grind (arith, bit_at_lowest, number_odd)
bit_at-number (b ∷ l) (suc i) = grind (arith, bit_at-suc, number_half, bit_at-number l i)

-- as many digits of the number are 1 as positions of the list are true
pub ones-number : (l : List Bool) → count_ones (number l) ≡ count_by (is_bit true) l
ones-number [] = ones-ones 0
ones-number (b ∷ l) = ones_step (number (b ∷ l)) ∙ (rw (number_odd, number_half, ones-number l) (search (rules, sum_by-cons)))

-- a bit of the part from p on, by the part's number
pub part_bit : (l : List Bool) (p n i : ℕ) → i < n → bit_at (number (take n (drop p l))) i ≡ bit_value (get_or l (p + i) false)
part_bit l p n i h = bit_at-number (take n (drop p l)) i ∙ ap bit_value (get_or-take n (drop p l) i false h ∙ get_or-drop p l i false)

-- a bit of a limb
pub limb_bit : (l : List Bool) (k i : ℕ) → i < 64 → bit_at (limb l k) i ≡ bit_value (get_or l (64 * k + i) false)
unfolding limb
limb_bit l k i h = part_bit l (64 * k) 64 i h
