-- The next zero or one, by the number of the bits that follow.
use Rattle.vers_sorted.proofs.Names.{◌≡◌, ℕ, zero, suc, ◌+◌, ◌<◌, ◌≤◌, Bool, false, List, length, take, drop, get_or, sym, ap, ◌∙◌, arith, Some, w64, trailing_ones, leb-true, and_parts, cond_some, bit_at-trailing_ones, is_bit, number, count, select, count_le, select_at, count_at_select, count_more_no, part_bit, value_none, value_one, part_number_or_zero}

-- if no position of a stretch has the bit, the count stays
pub count_stays : (b : Bool) (l : List Bool) (p d : ℕ) → p + d ≤ length l → ((i : ℕ) → i < d → is_bit b (get_or l (p + i) false) ≡ false) → count b l (p + d) ≡ count b l p
count_stays b l p zero h off = grind arith
count_stays b l p (suc d) h off =
    let e : p + suc d ≡ p + d + 1 = omega arith in
    grind (arith, count_more_no, count_stays b l p d (omega arith) (λ i small. off i (omega arith)))

-- the next zero, from the number of the next 64 bits, where they are not all ones
pub next_zero : (l : List Bool) (p h : ℕ) → p + 64 ≤ length l → count false l p ≡ h → number (take 64 (drop p l)) + 1 < 18446744073709551616
    → select false l h ≡ p + trailing_ones w64 (number (take 64 (drop p l)))
next_zero l p h within counted small =
    let t : ℕ = trailing_ones w64 (number (take 64 (drop p l))) in
    let found = bit_at-trailing_ones w64 (number (take 64 (drop p l))) small in
    let here : get_or l (p + t) false ≡ false = value_none (get_or l (p + t) false) (sym (part_bit l p 64 t found.0) ∙ found.1) in
    let stays = count_stays false l p t (omega (arith, found.0)) (λ i less.
    ap (is_bit false) (value_one (get_or l (p + i) false) (sym (part_bit l p 64 i (omega (arith, found.0))) ∙ found.2 i less))) in
    select_at false l h (p + t) (omega (arith, found.0)) (ap (is_bit false) here) (stays ∙ counted)

-- past zero number h as many zeros are as h and one more
pub counted_past : (b : Bool) (l : List Bool) (h p : ℕ) → h < count b l (length l) → p ≡ select b l h → count b l (p + 1) ≡ h + 1
counted_past b l h p some e = ap (λ q. count b l (q + 1)) e ∙ (count_at_select b l h some).2

-- what a part of n bits gives that was read
pub part_of : (l : List Bool) (p n w : ℕ) → part_number_or_zero l p n ≡ Some w → (n ≤ 64) × (p + n ≤ length l) × (w ≡ number (take n (drop p l)))
unfolding part_number_or_zero
part_of l p n w e = grind (arith, cond_some, and_parts, leb-true)

pub part_read : (l : List Bool) (p w : ℕ) → part_number_or_zero l p 64 ≡ Some w → (p + 64 ≤ length l) × (w ≡ number (take 64 (drop p l)))
part_read l p w e = let read = part_of l p 64 w e in (read.1, read.2)

pub select_within : (b : Bool) (l : List Bool) (h p : ℕ) → h < count b l (length l) → p ≡ select b l h → p < length l
select_within b l h p some e = omega (arith, (count_at_select b l h some).0)

pub zero_read : (l : List Bool) (h at w : ℕ) → h < count false l (length l) → at ≡ select false l h → part_number_or_zero l (at + 1) 64 ≡ Some w → w + 1 < 18446744073709551616
    → at + 1 + trailing_ones w64 w ≡ select false l (h + 1)
zero_read l h at w some e read small = grind (arith, part_read, next_zero, counted_past)

pub zero_fits : (l : List Bool) (p w : ℕ) → part_number_or_zero l p 64 ≡ Some w → w + 1 < 18446744073709551616 → p + trailing_ones w64 w < length l
zero_fits l p w read small = omega (arith, (part_read l p w read).0, (bit_at-trailing_ones w64 w small).0)

pub few_zeros : (l : List Bool) (h : ℕ) → h < count false l (length l) → h < length l
few_zeros l h some = omega (arith, count_le false l (length l))

pub ruleset scans = (zero_read, zero_fits, select_within, few_zeros)
