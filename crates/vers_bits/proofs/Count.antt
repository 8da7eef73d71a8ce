-- How many of the first positions have a bit.
use Rattle.vers_bits.proofs.Names.{◌≡◌, ℕ, ◌+◌, ◌-◌, ◌*◌, ◌%◌, ◌^◌, ◌≤◌, min, Bool, true, false, cond, List, [], ◌∷◌, length, take, drop, refl, sym, ap, ◌∙◌, arith, count_by, count_ones, length-take, take_all, take-take, sum_by-cons, sum_by-append, count_by-le-length, take-add, number, is_bit, rules, count, limb}
use Rattle.vers_bits.proofs.Num.{number-take, ones-number}

pub count_none : (b : Bool) (l : List Bool) → count b l 0 ≡ 0
unfolding count
count_none b l = refl

-- the first p + m positions: the first p, and m of the others
pub count_split : (b : Bool) (l : List Bool) (p m : ℕ) → count b l (p + m) ≡ count b l p + count b (drop p l) m
unfolding count
count_split b l p m = ap (count_by (is_bit b)) (take-add p m l) ∙ sum_by-append (λ x. cond (is_bit b x) 1 0) (take p l) (take m (drop p l))

pub count_to : (b : Bool) (l : List Bool) (i j : ℕ) → i ≤ j → count b l j ≡ count b l i + count b (drop i l) (j - i)
count_to b l i j h = ap (count b l) (let e : j ≡ i + (j - i) = omega arith in e) ∙ count_split b l i (j - i)

pub count_le : (b : Bool) (l : List Bool) (i : ℕ) → (count b l i ≤ i) × (count b l i ≤ length l)
unfolding count
count_le b l i = grind (arith, count_by-le-length, length-take)

pub count_up : (b : Bool) (l : List Bool) (i j : ℕ) → i ≤ j → count b l i ≤ count b l j
count_up b l i j h = omega (arith, count_to b l i j h)

-- at most one a position
pub count_near : (b : Bool) (l : List Bool) (i j : ℕ) → i ≤ j → count b l j ≤ count b l i + (j - i)
count_near b l i j h = omega (arith, count_to b l i j h, (count_le b (drop i l) (j - i)).0)

pub count_past : (b : Bool) (l : List Bool) (i : ℕ) → length l ≤ i → count b l i ≡ count b l (length l)
unfolding count
count_past b l i h = ap (count_by (is_bit b)) (take_all i l h ∙ sym (take_all (length l) l (omega arith)))

both_of : (l : List Bool) → count_by (is_bit false) l + count_by (is_bit true) l ≡ length l
both_of [] = refl
both_of (true ∷ l) = search (rules, sum_by-cons, both_of l)
both_of (false ∷ l) = search (rules, sum_by-cons, both_of l)

-- each position below the length has one of the two
pub count_both : (l : List Bool) (i : ℕ) → count false l i + count true l i ≡ min i (length l)
unfolding count
count_both l i = both_of (take i l) ∙ length-take i l

-- the ones among the low r bits of a limb
pub count_limb : (l : List Bool) (k r : ℕ) → r ≤ 64 → count true l (64 * k + r) ≡ count true l (64 * k) + count_ones (limb l k % 2 ^ r)
unfolding limb count
count_limb l k r h =
    let few : number (take r (drop (64 * k) l)) ≡ number (take 64 (drop (64 * k) l)) % 2 ^ r =
    sym (ap number (search (rules, take-take))) ∙ number-take r (take 64 (drop (64 * k) l)) in
    count_split true l (64 * k) r ∙ ap (λ x. count true l (64 * k) + x) (sym (ones-number (take r (drop (64 * k) l))) ∙ ap count_ones few)

pub count_limb_whole : (l : List Bool) (k : ℕ) → count true l (64 * k + 64) ≡ count true l (64 * k) + count_ones (limb l k)
unfolding limb count
count_limb_whole l k = count_split true l (64 * k) 64 ∙ ap (λ x. count true l (64 * k) + x) (sym (ones-number (take 64 (drop (64 * k) l))))

-- no position has more before it than the whole list holds
pub count_le_all : (b : Bool) (l : List Bool) (i : ℕ) → count b l i ≤ count b l (length l)
count_le_all b l i = grind (arith, count_up, count_past)
