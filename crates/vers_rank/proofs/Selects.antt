-- From counts to positions.
use Rattle.vers_rank.proofs.Names.{◌≡◌, ℕ, ◌+◌, ◌-◌, ◌*◌, ◌/◌, ◌<◌, ◌≤◌, Bool, true, false, List, length, get_or, ap, ◌∙◌, refl, sym, inl, inr, arith, min, cases_lt, cases_Bool, is_bit, count, limb, limb_count, select, count_le_all, count_le, count_up, count_near, count_limb, count_both, count_past, select_at, select_past, select_below, select_not_below, count_at_select, count_more_yes, count_more_no, digits, digits_up, digits_halved, IsSample, IsLimbWith, IsAmongLimbs, held, held_in, held_of}
use Rattle.vers_rank.proofs.Ranks.{count_at}
use Rattle.vers_rank.proofs.Words.{ones_few}

-- inside the list it is the count
pub held_is : (b : Bool) (l : List Bool) (i : ℕ) → i ≤ length l → held b l i ≡ count b l i
unfolding held
held_is b l i h = grind (arith, cases_Bool b, count_both l i, count_le true l i)

pub held_up : (b : Bool) (l : List Bool) (i j : ℕ) → i ≤ j → held b l i ≤ held b l j
unfolding held
held_up b l i j h = grind (arith, cases_Bool b, count_up true l i j h, count_near true l i j h, count_le true l i, count_le true l j)

-- inside a limb
pub held_limb : (b : Bool) (l : List Bool) (k j : ℕ) → j ≤ 64 → held b l (64 * k + j) ≡ held b l (64 * k) + held_in b (limb l k) j
unfolding held held_in
held_limb b l k j h = grind (arith, cases_Bool b, count_limb l k j h, count_le true l (64 * k), ones_few (limb l k) j)

pub count_le_held : (b : Bool) (l : List Bool) (i : ℕ) → count b l i ≤ held b l i
count_le_held b l i = grind (arith, cases_lt i (length l), held_is b l i, held_is b l (length l), count_past b l i, held_up b l (length l) i)

-- every position that a select gives is within the list, or its end
pub select_le : (b : Bool) (l : List Bool) (r : ℕ) → select b l r ≤ length l
select_le b l r = grind (arith, cases_lt r (count b l (length l)), count_at_select b l r, select_past b l r)

-- one limb more
pub held_more : (b : Bool) (l : List Bool) (k : ℕ) → held b l (64 * (k + 1)) ≡ held b l (64 * k) + held_in b (limb l k) 64
held_more b l k = ap (held b l) (let e : 64 * (k + 1) ≡ 64 * k + 64 = omega arith in e) ∙ held_limb b l k 64 (omega arith)

-- number r is the position that the search in limb k found
pub position_found : (b : Bool) (l : List Bool) (r k p seen : ℕ) → r < count b l (length l) → seen ≡ held b l (64 * k) → seen ≤ r → p < 64
    → held_in b (limb l k) p ≤ r - seen → r - seen < held_in b (limb l k) (p + 1) → select b l r ≡ 64 * k + p
position_found b l r k p seen some counted before small from to =
    let q = 64 * k + p in
    grind (arith, cases_lt q (length l), count_le_held b l q, held_is b l (q + 1), count_past b l (q + 1), select_not_below b l r q, select_below b l r (q + 1), held_limb b l k p, held_limb b l k (p + 1))

-- after the last limb of a block nothing of the block is left
pub block_end : (b : Bool) (l : List Bool) (block end : ℕ) → end ≡ min (8 * block + 8) (limb_count (length l)) → count b l (512 * (block + 1)) ≤ held b l (64 * end)
block_end b l block end e = grind (arith, cases_lt, count_le_held, count_le_all, held_is, held_up)

-- number r of a block is in the limb that the scan has found
pub rest_in_limb : (b : Bool) (l : List Bool) (block r k before : ℕ) → 512 * block < length l → count b l (512 * block) + r < count b l (512 * (block + 1))
    → IsLimbWith b l block r (min (8 * block + 7) ((length l - 1) / 64)) k before → r - before < held_in b (limb l k) 64
rest_in_limb b l block r k before within to found =
    let last : ℕ = min (8 * block + 7) ((length l - 1) / 64) in
    let start : held b l (512 * block) ≡ count b l (512 * block) = held_is b l (512 * block) (omega arith) in
    let stop : held b l (512 * block) + r < held b l (64 * (k + 1)) = grind (arith, cases_lt k last, found.to, found.inside, block_end b l block (k + 1)) in
    omega (arith, held_more b l k, found.counted, found.from)

-- the samples before and after number r bound its superblock
pub record IsBetween (b : Bool) (l : List Bool) (r first last : ℕ) : Type 0 where
  pub order : first < last + 1
  pub within : 8192 * last < length l
  pub from : count b l (8192 * first) ≤ r
  pub to : r < count b l (8192 * (last + 1))

pub samples_bound : (b : Bool) (l : List Bool) (r first last : ℕ) → r < count b l (length l)
    → IsSample b l (r / 8192) first → IsSample b l (r / 8192 + 1) last → IsBetween b l r first last
samples_bound b l r first last some before after = grind (arith, count_le, count_up)

pub ruleset totals = (count_both, count_le, select_past, select_le)

pub ruleset between = (samples_bound, digits_up)

pub ruleset within_superblock = (count_past)

pub ruleset block_search = (count_up, count_le)

pub ruleset limb_search = (held_more, held_up)

-- n positions more, of which `ones` are ones
held_among : (b : Bool) (l : List Bool) (i n ones : ℕ) → count true l i + ones ≡ count true l (i + n) → ones ≤ n → (held b l i + held_of b ones n ≡ held b l (i + n)) × (held_of b ones n ≤ n)
unfolding held
held_among b l i n ones counts few = grind (arith, cases_Bool b, count_le true l i)

-- half of twice n limbs: the second if the positions of the first don't pass number r, otherwise the first
pub half_of : (b : Bool) (l : List Bool) (block r n limb before ones : ℕ) → IsAmongLimbs b l block r (2 * n) limb before → count true l (64 * limb) + ones ≡ count true l (64 * (limb + n)) → ones ≤ 64 * n
    → (before + held_of b ones (64 * n) ≤ r → IsAmongLimbs b l block r n (limb + n) (before + held_of b ones (64 * n))) × (r < before + held_of b ones (64 * n) → IsAmongLimbs b l block r n limb before)
half_of b l block r n limb before ones is counts few =
    let next : 64 * limb + 64 * n ≡ 64 * (limb + n) = omega arith in
    let end : 64 * (limb + n + n) ≡ 64 * (limb + 2 * n) = omega arith in
    let among = rw next at (held_among b l (64 * limb) (64 * n) ones (rw next counts) few) in
    (λ low. grind (arith, is, among, ap (held b l) end), λ high. grind (arith, is, among))

-- the limb that is left
pub one_limb : (b : Bool) (l : List Bool) (block r limb before : ℕ) → IsAmongLimbs b l block r 1 limb before → IsLimbWith b l block r (8 * block + 7) limb before
one_limb b l block r limb before is = grind arith

-- half of a block: the second if the positions of the first don't pass number r, otherwise the first
pub block_half : (b : Bool) (l : List Bool) (block r ones : ℕ) → count true l (64 * (8 * block)) + ones ≡ count true l (64 * (8 * block + 4)) → ones ≤ 256
    → (held_of b ones 256 ≤ r → IsAmongLimbs b l block r 4 (8 * block + 4) (held_of b ones 256)) × (r < held_of b ones 256 → IsAmongLimbs b l block r 4 (8 * block) 0)
block_half b l block r ones counts few =
    let none : 0 + held_of b ones 256 ≡ held_of b ones 256 = omega arith in
    rw none at (half_of b l block r 4 (8 * block) 0 ones (grind arith) counts few)

pub ruleset halves_of_block = (count_at, one_limb)

-- the greater half of n has a digit less
pub half_left : (n : ℕ) → 1 < n → digits (n - n / 2 - 1) + 1 ≤ digits (n - 1)
half_left n h = digits_halved (n - n / 2 - 1) (n - 1) (omega arith) (omega arith)

-- a few steps, and then halves
pub ruleset steps = (digits_up)

-- halving a range, within the budget of its digits
pub ruleset halves = (half_left, count_up)
