-- How positions and counts of symbols go from one level to the next.
use Rattle.vers_wavelet.proofs.Names.{◌≡◌, ℕ, zero, suc, ◌+◌, ◌-◌, ◌*◌, ◌^◌, ◌<◌, ◌≤◌, Bool, true, false, cond, ltb, leb, List, [], ◌∷◌, length, get_or, refl, ap, ◌∙◌, arith, add-one, add-zero, inl, inr, pow-suc, mul-le-mul_right, cases_Bool, cases_lt, lt-ltb, le-ltb, le-leb, leb-true, ltb-true, eq-eqb, nat_tests, bit_value, bit_value_le, count_positions, is_bit, count, count_le, count_up, count_near, count_both, count_past, count_more_yes, count_more_no, select, select_holds, start, next, value, count_below, count_equal, final_position, digit}

pub next_none : (b : Bool) (l : List Bool) → next b l 0 ≡ start b l
unfolding next count
next_none b l = add-zero (start b l)

pub next_more : (b : Bool) (l : List Bool) (i : ℕ) → i < length l → next b l (i + 1) ≡ next b l i + cond (is_bit b (get_or l i false)) 1 0
unfolding next
next_more b l i h = grind (arith, cases_Bool (is_bit b (get_or l i false)), count_more_yes b l i h, count_more_no b l i h)

pub value_is : (l : List Bool) (ls : List (List Bool)) (i : ℕ) (b : Bool) → get_or l i false ≡ b → value (l ∷ ls) i ≡ bit_value b * 2 ^ length ls + value ls (next b l i)
unfolding value
value_is l ls i b e = ap (λ v. bit_value v * 2 ^ length ls + value ls (next v l i)) e

pub value_none : (i : ℕ) → value [] i ≡ 0
unfolding value
value_none i = refl

pub value-lt : (ls : List (List Bool)) (i : ℕ) → value ls i < 2 ^ length ls
value-lt [] i = omega (arith, value_none i)
value-lt (l ∷ ls) i =
    let b : Bool = get_or l i false in
    omega (arith, value_is l ls i b refl, value-lt ls (next b l i), mul-le-mul_right (2 ^ length ls) (bit_value_le b), pow-suc 2 (length ls))

ltb_shift : (h a b y : ℕ) → y ≡ h + b → ltb (h + a) y ≡ ltb a b
ltb_shift h a b y e = grind (arith, nat_tests)

-- ---- counts over the positions of a level

pub counts_more : (q : ℕ → Bool) (n : ℕ) → count_positions q (n + 1) ≡ count_positions q n + cond (q n) 1 0
counts_more q n = rw add-one refl

pub counts_same : (q r : ℕ → Bool) (n : ℕ) → ((p : ℕ) → p < n → q p ≡ r p) → count_positions q n ≡ count_positions r n
counts_same q r zero h = refl
counts_same q r (suc n) h = omega (arith, counts_same q r n (λ p k. h p (omega arith)), ap {B = ℕ} (λ t. cond t 1 0) (h n (omega arith)))

-- a test that all positions pass, or none
pub counts_all : (q : ℕ → Bool) (b : Bool) (n : ℕ) → ((p : ℕ) → q p ≡ b) → count_positions q n ≡ cond b n 0
counts_all q b zero h = grind (arith, cases_Bool b)
counts_all q b (suc n) h = grind (arith, cases_Bool b, counts_all q b n h, h n)

-- the zeros and the ones of a level go to positions of their own in the next
pub split_counts : (l : List Bool) (h f g : ℕ → Bool) → ((p : ℕ) → get_or l p false ≡ false → h p ≡ f (next false l p))
    → ((p : ℕ) → get_or l p false ≡ true → h p ≡ g (next true l p))
    → (i : ℕ) → i ≤ length l → count_positions h i + count_positions g (start true l) ≡ count_positions f (next false l i) + count_positions g (next true l i)
split_counts l h f g low high zero within = omega (arith, ap (count_positions f) (next_none false l), ap (count_positions g) (next_none true l))
split_counts l h f g low high (suc i) within =
    let before = split_counts l h f g low high i (omega (arith, within)) in
    let inside : i < length l = omega (arith, within) in
    rw (← add-one i) (grind (arith, cases_Bool (get_or l i false), before, low i, high i, counts_more, next_more true l i inside, next_more false l i inside))

-- all symbols are below what no number with as many digits reaches
pub below_all : (ls : List (List Bool)) (y n : ℕ) → 2 ^ length ls ≤ y → count_below ls y n ≡ n
unfolding count_below
below_all ls y n h = counts_all _ true n (λ p. lt-ltb (value ls p) y (omega (arith, value-lt ls p)))

-- those below a symbol y, whose first digit is the bit and whose others are s, by those that continue with that digit
pub below_step : (bit : Bool) (l : List Bool) (ls : List (List Bool)) (s y i : ℕ) → y ≡ bit_value bit * 2 ^ length ls + s → s ≤ 2 ^ length ls
    → i ≤ length l
    → count_below (l ∷ ls) y i + count_below ls s (start bit l) ≡ cond bit (next false l i) 0 + count_below ls s (next bit l i)
unfolding count_below
below_step true l ls s y i e small h =
    let parts = split_counts l (λ p. ltb (value (l ∷ ls) p) y) (λ p. true) (λ p. ltb (value ls p) s)
    (λ p off. lt-ltb _ y (omega (arith, value_is l ls p false off, value-lt ls (next false l p))))
    (λ p on. ap (λ v. ltb v y) (value_is l ls p true on) ∙ ltb_shift (1 * 2 ^ length ls) (value ls (next true l p)) s y e) i h in
    omega (arith, parts, counts_all (λ p. true) true (next false l i) (λ p. refl))
below_step false l ls s y i e small h =
    let parts = split_counts l (λ p. ltb (value (l ∷ ls) p) y) (λ p. ltb (value ls p) s) (λ p. false)
    (λ p off. ap (λ v. ltb v y) (value_is l ls p false off) ∙ ltb_shift (0 * 2 ^ length ls) (value ls (next false l p)) s y e)
    (λ p on. le-ltb _ y (omega (arith, value_is l ls p true on))) i h in
    let none = λ (n : ℕ). counts_all (λ p. false) false n (λ p. refl) in
    omega (arith, parts, none (start true l), none (next true l i))

-- those that have s are those below s + 1 and not below s
pub equal_below : (ls : List (List Bool)) (s n : ℕ) → count_equal ls s n + count_below ls s n ≡ count_below ls (s + 1) n
unfolding count_equal count_below
equal_below ls s zero = refl
equal_below ls s (suc n) = grind (arith, equal_below ls s n, nat_tests)

-- a bit that is one of its kind is that bit
pub same_bit : (b c : Bool) → is_bit b c ≡ true → c ≡ b
same_bit b c e = grind arith

-- the part of the bit has room in the next level
pub next-le : (b : Bool) (l : List Bool) (i : ℕ) → next b l i ≤ length l
unfolding next
next-le true l i = grind (arith, cases_lt i (length l), count_both l (length l), count_up true l i (length l), count_past true l i)
next-le false l i = omega (arith, count_le false l i)

pub next-up : (b : Bool) (l : List Bool) (i j : ℕ) → i ≤ j → next b l i ≤ next b l j
unfolding next
next-up b l i j h = omega (arith, count_up b l i j h)

-- the zeros and the ones of a range
pub next_both : (l : List Bool) (a b : ℕ) → a ≤ b → b ≤ length l → (next true l b - next true l a) + (next false l b - next false l a) ≡ b - a
unfolding next
next_both l a b order within = omega (arith, count_both l a, count_both l b, count_up true l a b order, count_up false l a b order)

pub ruleset parts = (next_both, next-le, next-up)

-- the zeros of a range of one position
pub next_single : (l : List Bool) (i j : ℕ) (b : Bool) → j ≡ i + 1 → i < length l → b ≡ get_or l i false → next false l j ≡ cond b (next false l i) (next false l i + 1)
next_single l i j b e h is = grind (arith, cases_Bool b, next_more false l i h)

pub next_up_to_position : (l : List Bool) (i : ℕ) → next false l i ≤ i
unfolding next
next_up_to_position l i = omega (arith, count_le false l i)

pub none_below : (i : ℕ) → count_below [] 0 i ≡ 0
unfolding count_below
none_below i = counts_all _ false i (λ p. le-ltb (value [] p) 0 (omega arith))

pub all_equal : (i : ℕ) → count_equal [] 0 i ≡ i
unfolding count_equal
all_equal i = counts_all _ true i (λ p. eq-eqb (value [] p) 0 (value_none p))

pub next_near : (b : Bool) (l : List Bool) (i j : ℕ) → i ≤ j → next b l j ≤ next b l i + (j - i)
unfolding next
next_near b l i j h = omega (arith, count_near b l i j h)

-- the position in the part of the ones, from that in the part of the zeros
pub next_other : (l : List Bool) (i : ℕ) → i ≤ length l → next true l i + next false l i ≡ count false l (length l) + i
unfolding next
next_other l i h = omega (arith, count_both l i)

pub ruleset others = (next_other, next-le)

-- the positions of the next level from the first of the ones on are those of the ones, and those before it those of the zeros
pub next_true_all : (l : List Bool) → next true l (length l) ≡ length l
unfolding next
next_true_all l = omega (arith, count_both l (length l))

pub next_false_all : (l : List Bool) → next false l (length l) ≡ count false l (length l)
unfolding next
next_false_all l = omega arith

-- the positions of a level take all positions of the next, each once
pub split_all : (l : List Bool) (h f g : ℕ → Bool) → ((p : ℕ) → get_or l p false ≡ false → h p ≡ f (next false l p))
    → ((p : ℕ) → get_or l p false ≡ true → h p ≡ g (next true l p))
    → (n : ℕ) → length l ≡ n → count_positions h n + count_positions g (start true l) ≡ count_positions f (start true l) + count_positions g n
split_all l h f g low high n long =
    rw (← long) (omega (arith, split_counts l h f g low high (length l) (omega arith), ap (count_positions f) (next_false_all l), ap (count_positions g) (next_true_all l)))

pub of_kind : (bit : Bool) (l : List Bool) (z p : ℕ) → z ≡ count false l (length l) → p < length l
    → (cond bit (leb z p) (ltb p z) ≡ true → (start bit l ≤ p) × (p < next bit l (length l))) × ((start bit l ≤ p) × (p < next bit l (length l)) → cond bit (leb z p) (ltb p z) ≡ true)
of_kind true l z p zeros h = (λ t. (omega (arith, zeros, leb-true z p t), omega (arith, h, next_true_all l)), λ t. le-leb z p (omega (arith, zeros, t.0)))
of_kind false l z p zeros h = (λ t. (omega arith, omega (arith, zeros, next_false_all l, ltb-true p z t)), λ t. lt-ltb p z (omega (arith, zeros, next_false_all l, t.1)))

-- a position that has the bit has its own position in the next level
pub next-lt : (b : Bool) (l : List Bool) (i : ℕ) → i < length l → get_or l i false ≡ b → next b l i < length l
next-lt b l i h e = grind (arith, cases_Bool b, next-le b l (i + 1), next_more b l i h)

-- each position of a level is one at which a position of the level above continues
of_bit : (b : Bool) (l : List Bool) (r : ℕ) → r < count b l (length l) → (i : ℕ) × (i < length l) × (next (get_or l i false) l i ≡ start b l + r)
unfolding next
of_bit b l r h =
    let at = select_holds b l r (length l) (omega arith) h in
    let i : ℕ = select b l r in
    (i, at.0, ap (λ c. start c l + count c l i) (same_bit b _ at.1) ∙ ap (λ n. start b l + n) at.2)

pub from_above : (l : List Bool) (p : ℕ) → p < length l → (i : ℕ) × (i < length l) × (next (get_or l i false) l i ≡ p)
from_above l p h =
    let zeros : ℕ = count false l (length l) in
    elim (cases_lt p zeros) [
      | inl low ↦ let a = of_bit false l p low in (a.0, a.1, omega (arith, a.2))
      | inr high ↦ let a = of_bit true l (p - zeros) (omega (arith, count_both l (length l))) in (a.0, a.1, omega (arith, a.2))
    ]

-- ---- final positions

pub final_none : (s i : ℕ) → final_position [] s i ≡ i
unfolding final_position
final_none s i = refl

pub final_is : (l : List Bool) (ls : List (List Bool)) (s i : ℕ) → final_position (l ∷ ls) s i ≡ final_position ls s (next (digit s (length ls)) l i)
unfolding final_position
final_is l ls s i = refl

pub final-up : (ls : List (List Bool)) (s i j : ℕ) → i ≤ j → final_position ls s i ≤ final_position ls s j
final-up [] s i j h = omega (arith, final_none s i, final_none s j)
final-up (l ∷ ls) s i j h =
    let bit : Bool = digit s (length ls) in
    omega (arith, final_is l ls s i, final_is l ls s j, final-up ls s (next bit l i) (next bit l j) (next-up bit l i j h))

pub equal_more : (ls : List (List Bool)) (s i : ℕ) → value ls i ≡ s → count_equal ls s (i + 1) ≡ count_equal ls s i + 1
unfolding count_equal
equal_more ls s i e = rw add-one (omega (arith, ap {B = ℕ} (λ t. cond t 1 0) (eq-eqb (value ls i) s e)))
