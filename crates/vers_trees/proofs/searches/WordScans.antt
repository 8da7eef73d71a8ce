-- Whole words of a scan: how far a sum falls along one at most, by its zeros that no one is right before, and by its ones that no zero is right after.
use Rattle.vers_trees.proofs.Names.{◌≡◌, ℕ, zero, suc, ◌+◌, ◌-◌, ◌*◌, ◌/◌, ◌%◌, ◌^◌, ◌<◌, ◌≤◌, Bool, true, false, ◌&&◌, List, [], ◌∷◌, length, take, ℤ, pos, negsuc, ◌+ℤ◌, ◌-ℤ◌, ◌≤ℤ◌, ◌<ℤ◌, Option, Some, arith, ap, refl, FitsSigned, to_z, of_z, ◌∙◌, w64, pow-suc, ones-le, part_number_or_zero, bit_or, bit_and, count_ones, IsTrue, lt_z, ints, to_z-of_z, to_z_pos, or_block, and_block, or_lt, number, part, bit_value, number-take, excess, HasNoRise, falls, is_not_closed, rises, ones_step, ones-ones, bit_value_le}
pub use Rattle.vers_trees.proofs.searches.Scans.{fits_small, forward_more, backward_more, rise_within}
use Rattle.vers_trees.proofs.grammar.Excess.{excess-zero, excess-nil, excess-cons}
pub use Rattle.vers_trees.proofs.searches.ByteScans.{length-part, excess-part, total_of, whole_word, read_some, byte_read, entry_ordered, forward_byte_found, forward_byte, backward_byte_found, backward_byte}

-- ---- the number of a list and its first bit
number_next : (b : Bool) (l : List Bool) → number (b ∷ l) ≡ number l * 2 ^ 1 + bit_value b
number_next b l = omega arith

bit_small : (b : Bool) → bit_value b < 2 ^ 1
bit_small b = omega (arith, bit_value_le b)

ones_next : (n : ℕ) (b : Bool) → count_ones (n * 2 ^ 1 + bit_value b) ≡ bit_value b + count_ones n
ones_next n b = grind (arith, ints, ones_step)

-- ---- forwards: the zeros that no one is right before
abbrev before : Bool → List Bool → List Bool
before p [] = []
before p (b ∷ l) = p ∷ before b l

before_is : (p : Bool) (n : ℕ) (l : List Bool) → length l ≡ suc n → before p l ≡ p ∷ take n l
before_is p n [] e = absurd (omega arith)
before_is p zero (b ∷ []) e = refl
before_is p zero (b ∷ c ∷ l) e = absurd (omega arith)
before_is p (suc n) (b ∷ l) e = ap (λ (m : List Bool). p ∷ m) (before_is b n l (omega arith))

or_ones : (p : Bool) (l : List Bool) → count_ones (bit_or (number l) (number (before p l))) + falls p l ≡ length l
or_ones p [] = let z : count_ones 0 ≡ 0 = ones-ones 0 in omega arith
or_ones p (b ∷ l) =
    let a = or_block 1 (number l) (number (before b l)) (bit_value b) (bit_value p) (bit_small b) (bit_small p) in
    grind (arith, number_next, ones_next, or_ones b l)

pub falls_counted : (l : List Bool) (word : ℕ) → length l ≡ 64 → word ≡ number l → falls false l + count_ones (bit_or word (word * 2 % 18446744073709551616)) ≡ 64
falls_counted l word h e = grind (arith, ints, number-take 63 l, ap number (before_is false 63 l h), or_ones false l)

-- no sum along the list falls further
above : (p : Bool) (l : List Bool) (j : ℕ) → pos 0 ≤ℤ (excess l j +ℤ pos (bit_value p + falls p l))
above p [] j = grind (arith, ints, excess-nil)
above p (b ∷ l) zero = grind (arith, ints, excess-zero)
above p (b ∷ l) (suc j) = grind (arith, ints, excess-cons, above b l j)

pub covered_few : (word : ℕ) → word < 18446744073709551616 → count_ones (bit_or word (word * 2 % 18446744073709551616)) ≤ 64
covered_few word h = ones-le 64 (bit_or word (word * 2 % 18446744073709551616)) (or_lt 64 word (word * 2 % 18446744073709551616) h (omega arith))

-- ---- backwards: the ones that no zero is right after
abbrev after : List Bool → List Bool
after [] = []
after (b ∷ l) = is_not_closed l ∷ after l

and_values : (b p : Bool) → bit_and (bit_value b) (bit_value p) ≡ bit_value (b && p)
and_values b p = grind arith

number-after : (b : Bool) (l : List Bool) → number (after (b ∷ l)) ≡ number l + 2 ^ length l
number-after b [] = refl
number-after b (c ∷ l) = let h = number-after c l in omega (arith, pow-suc 2 (length l))

and_ones : (l : List Bool) → count_ones (bit_and (number l) (number (after l))) ≡ rises l
and_ones [] = ones-ones 0
and_ones (b ∷ l) =
    let p = is_not_closed l in let a = and_block 1 (number l) (number (after l)) (bit_value b) (bit_value p) (bit_small b) (bit_small p) in
    rw (number_next b l, number_next p (after l)) (ap count_ones (a ∙ ap (λ (n : ℕ). bit_and (number l) (number (after l)) * 2 ^ 1 + n) (and_values b p)) ∙ ones_next _ (b && p) ∙ ap (λ (n : ℕ). bit_value (b && p) + n) (and_ones l))

after_word : (l : List Bool) → length l ≡ 64 → number (after l) ≡ number l / 2 + 9223372036854775808
after_word [] h = absurd (omega arith)
after_word (b ∷ l) h = grind (arith, ints, bit_small, number-after b l)

pub rises_counted : (l : List Bool) (word : ℕ) → length l ≡ 64 → word ≡ number l → rises l ≡ count_ones (bit_and word (word / 2 + 9223372036854775808))
rises_counted l word h e = grind (arith, ints, and_ones, after_word l h)

pub rises_few : (l : List Bool) → rises l ≤ length l
rises_few [] = omega arith
rises_few (b ∷ l) = grind (arith, ints, bit_small, rises_few l)

-- no sum from the end of the list falls further
total_few : (l : List Bool) → (excess l (length l) +ℤ pos (1 - bit_value (is_not_closed l))) ≤ℤ pos (rises l)
total_few [] = grind (arith, ints, excess-nil)
total_few (b ∷ l) = grind (arith, ints, excess-zero, excess-nil, excess-cons, total_few l)

below : (l : List Bool) (j : ℕ) → j ≤ length l → excess l (length l) ≤ℤ (excess l j +ℤ pos (rises l))
below l zero h = omega (arith, ints, excess-zero l, total_few l)
below [] (suc j) h = absurd (omega arith)
below (b ∷ l) (suc j) h = omega (arith, ints, excess-cons b l (length l), excess-cons b l j, below l j (omega arith))

-- ---- as the code has them
pub count_is : (n : ℕ) → n ≤ 64 → to_z w64 n ≡ pos n
count_is n h = to_z_pos w64 n (omega arith)

pub zeros_fit : (n : ℕ) → n ≤ 64 → FitsSigned w64 (pos 64 -ℤ to_z w64 n)
zeros_fit n h = rw (count_is n h) (fits_small (pos 64 -ℤ pos n) (omega (arith, ints)) (omega (arith, ints)))

pub zeros_is : (n : ℕ) → n ≤ 64 → to_z w64 (of_z w64 (pos 64 -ℤ to_z w64 n)) ≡ pos 64 -ℤ pos n
zeros_is n h = to_z-of_z w64 (pos 64 -ℤ to_z w64 n) (zeros_fit n h) ∙ ap (λ (z : ℤ). pos 64 -ℤ z) (count_is n h)

pub less_fits : (rise d : ℤ) → FitsSigned w64 rise → negsuc 9223372036854775743 ≤ℤ rise → pos 0 ≤ℤ d → d ≤ℤ pos 64 → FitsSigned w64 (to_z w64 (of_z w64 rise) -ℤ d)
less_fits rise d f low a b = rw (to_z-of_z w64 rise f) (fits_small (rise -ℤ d) (omega (arith, ints)) (omega (arith, ints)))

pub less_is : (target rise d : ℤ) → FitsSigned w64 target → FitsSigned w64 rise → negsuc 9223372036854775743 ≤ℤ rise → pos 0 ≤ℤ d → d ≤ℤ pos 64
    → IsTrue (lt_z (to_z w64 (of_z w64 target)) (to_z w64 (of_z w64 (to_z w64 (of_z w64 rise) -ℤ d)))) → target <ℤ (rise -ℤ d)
less_is target rise d f g low a b t = grind (arith, ints, to_z-of_z, less_fits)

-- ---- past a word that is read whole, where no sum along it comes down to r
pub forward_word : (l : List Bool) (from p q n : ℕ) (r rise d : ℤ) (o : Option ℕ) (word : ℕ) → HasNoRise false l from p r rise → length l < 2 ^ 63 → from ≤ p → q ≡ p + n → q ≤ length l → n ≡ 64 → o ≡ part_number_or_zero l p n → o ≡ Some word
    → ((bits : List Bool) → length bits ≡ 64 → word ≡ number bits → r <ℤ (rise -ℤ pos (falls false bits))) → d ≡ pos (2 * count_ones word) -ℤ pos 64 → FitsSigned w64 (rise +ℤ to_z w64 (of_z w64 d)) × HasNoRise false l from q r (to_z w64 (of_z w64 (rise +ℤ to_z w64 (of_z w64 d))))
forward_word l from p q n r rise d o word h short s e a long read some over k =
    let b : p + 64 ≤ length l = omega arith in let is = whole_word l p n o word read some long (omega arith) in let f = over (part l p 64) (length-part l p 64 b) is in
    rw (e, long) (forward_more l from p (p + 64) r rise d h short s (omega arith) b (total_of l p 64 word d (omega arith) b is k) (λ k y w.
    let g = excess-part l p 64 (k - p + 1) b (omega arith) in
    let here : excess l (p + (k - p + 1)) ≡ excess l (k + 1) = ap (excess l) (omega arith) in let u = above false (part l p 64) (k - p + 1) in
    absurd (omega (arith, ints))))

pub backward_word : (l : List Bool) (p q n end : ℕ) (r rise d : ℤ) (o : Option ℕ) (word : ℕ) → HasNoRise true l end q r rise → length l < 2 ^ 63 → q ≡ p + n → q ≤ end → end ≤ length l → n ≡ 64 → o ≡ part_number_or_zero l p n → o ≡ Some word
    → ((bits : List Bool) → length bits ≡ 64 → word ≡ number bits → r <ℤ (rise -ℤ pos (rises bits))) → d ≡ pos (2 * count_ones word) -ℤ pos 64 → FitsSigned w64 (rise -ℤ to_z w64 (of_z w64 d)) × HasNoRise true l end p r (to_z w64 (of_z w64 (rise -ℤ to_z w64 (of_z w64 d))))
backward_word l p q n end r rise d o word h short e s a long read some over k =
    let t = rw (e, long) at h in let b : p + 64 ≤ length l = omega arith in let is = whole_word l p n o word read some long (omega arith) in let f = over (part l p 64) (length-part l p 64 b) is in
    backward_more l p (p + 64) end r rise d t short (omega arith) (omega arith) a (total_of l p 64 word d (omega arith) b is k) (λ k y w.
    let m = length-part l p 64 b in let same = ap (excess (part l p 64)) m in let g64 = excess-part l p 64 64 b (omega arith) in
    let g = excess-part l p 64 (k - p) b (omega arith) in let here : excess l (p + (k - p)) ≡ excess l k = ap (excess l) (omega arith) in
    let u = below (part l p 64) (k - p) (omega arith) in absurd (omega (arith, ints)))
