-- Masked lists, position by position and limb by limb.
use Rattle.vers_bits.proofs.Names.{◌≡◌, ℕ, ◌+◌, ◌-◌, ◌*◌, ◌/◌, ◌%◌, ◌^◌, ◌<◌, ◌≤◌, Bool, false, eqb, List, Some, None, min, length, get_or, set, take, drop, arith, bit_at, bit_and, count_ones, cases_lt, cases_eq, ones-le, bit_at-lt, shr_and_one, same_from_bits, slice_get-get_or, slice_get_past, get_or-take, get_or-drop, get_or_past, get_or-set_same, get_or-set_other, length-take, length-drop, length-map-range_with_len, get_or-map-range_with_len, bit_value, word_bits, CutsTo, slice_get, limb, masked}
use Rattle.vers_bits.proofs.Words.{word_bits_are}
use Rattle.vers_bits.proofs.Edits.{cut_holds}
use Rattle.vers_bits.proofs.Num.{bit_at-number}
use Rattle.vers_bits.proofs.Count.{count_limb_whole, count_past, count_none, count_le, count_both}
use Rattle.vers_bits.proofs.Counting.{part_of_limb, part_number_none, part_number_some, parts_join}
use Rattle.vers_bits.proofs.LowBits.{bit_value_test, bit_at_mod, bit_at_mod_above}

pub length-masked : (g : ℕ → ℕ → ℕ) (l r : List Bool) → length (masked g l r) ≡ length l
unfolding masked
length-masked g l r = length-map-range_with_len (λ p. eqb (bit_at (g (limb l (p / 64)) (limb r (p / 64))) (p % 64)) 1) 0 (length l)

pub get_or-masked : (g : ℕ → ℕ → ℕ) (l r : List Bool) (p : ℕ) → p < length l
    → get_or (masked g l r) p false ≡ eqb (bit_at (g (limb l (p / 64)) (limb r (p / 64))) (p % 64)) 1
unfolding masked
get_or-masked g l r p h = grind (arith, get_or-map-range_with_len)

-- what a read of one bit computes
pub bit-masked : (g : ℕ → ℕ → ℕ) (l r : List Bool) (p : ℕ) → p < length l
    → get_or (masked g l r) p false ≡ eqb (bit_and (g (limb l (p / 64)) (limb r (p / 64)) / 2 ^ (p % 64)) 1) 1
bit-masked g l r p h = rw shr_and_one (get_or-masked g l r p h)

pub value-masked : (g : ℕ → ℕ → ℕ) (l r : List Bool) (p : ℕ) → p < length l
    → bit_value (get_or (masked g l r) p false) ≡ bit_and (g (limb l (p / 64)) (limb r (p / 64)) / 2 ^ (p % 64)) 1
value-masked g l r p h = grind (arith, shr_and_one, get_or-masked, bit_value_test, bit_at-lt)

-- a limb of the masked list has the digits of the answer that are below the length
pub limb-masked : (g : ℕ → ℕ → ℕ) (l r : List Bool) (k : ℕ)
    → limb (masked g l r) k ≡ g (limb l k) (limb r k) % 2 ^ min (length l - 64 * k) 64
unfolding limb
limb-masked g l r k =
    let m : ℕ = min (length l - 64 * k) 64 in
    let w : ℕ = g (limb l k) (limb r k) in
    let bits : List Bool = take 64 (drop (64 * k) (masked g l r)) in
    same_from_bits _ (w % 2 ^ m) (λ i.
    let position : i < 64 → ((64 * k + i) / 64 ≡ k) × ((64 * k + i) % 64 ≡ i) = λ h. omega arith in
    let rest = drop (64 * k) (masked g l r) in
    grind (arith, position, bit_at-number bits i, cases_lt i m, get_or-take 64 rest i false, get_or-drop (64 * k) (masked g l r) i false, get_or-masked g l r (64 * k + i), bit_value_test (bit_at w i), bit_at-lt w i, bit_at_mod w m i, get_or_past bits i false, length-take 64 rest, length-drop (64 * k) (masked g l r), length-masked g l r, bit_at_mod_above w m i))

-- at most as many ones as the limb has bits of the list
pub few_ones : (w n : ℕ) → w < 2 ^ min n 64 → (count_ones w ≤ 64) × (count_ones w ≤ n)
few_ones w n h = let few : count_ones w ≤ min n 64 = ones-le (min n 64) w h in (omega arith, omega arith)

pub ruleset reads = (bit-masked, value-masked)

pub ruleset lengths = (length-masked)

pub ruleset limbs = (limb-masked, few_ones)

pub ruleset counts = (count_limb_whole, count_past, count_none, count_le, count_both, length-masked)

pub ruleset parts = (part_of_limb, part_number_none, part_number_some, parts_join, length-masked)

-- a read with a test before it
pub position-masked : (g : ℕ → ℕ → ℕ) (l r : List Bool) (p : ℕ) → p < length l → slice_get (masked g l r) p ≡ Some (get_or (masked g l r) p false)
position-masked g l r p h = slice_get-get_or (masked g l r) p false (omega (arith, length-masked g l r))

pub position_past-masked : (g : ℕ → ℕ → ℕ) (l r : List Bool) (p : ℕ) → length l ≤ p → slice_get (masked g l r) p ≡ None
position_past-masked g l r p h = slice_get_past (masked g l r) p (omega (arith, length-masked g l r))

pub ruleset positions = (position-masked, position_past-masked)

-- words that are the answers on both limbs, cut to the length
pub combined : {us vs : List ℕ} {n : ℕ} → CutsTo us vs n → (g : ℕ → ℕ → ℕ) (l r : List Bool) → length l ≡ n
    → ((k : ℕ) → 64 * k < n → get_or us k 0 ≡ g (limb l k) (limb r k)) → word_bits vs n ≡ masked g l r
combined {us} {vs} {n} cuts g l r long each = grind (arith, word_bits_are, length-masked, get_or-masked)

pub ruleset combines = (cut_holds)

-- one word more of a list whose words become what f makes of them and the others
pub combined_more : (ws us os : List ℕ) (k r : ℕ) (f : ℕ → ℕ → ℕ) → k < length us → ((j : ℕ) → k ≤ j → get_or us j 0 ≡ get_or ws j 0)
    → ((j : ℕ) → j < k → get_or us j 0 ≡ f (get_or ws j 0) (get_or os j 0)) → r ≡ f (get_or us k 0) (get_or os k 0)
    → (j : ℕ) → j < k + 1 → get_or (set us k r) j 0 ≡ f (get_or ws j 0) (get_or os j 0)
combined_more ws us os k r f within others done here j h = grind (arith, cases_eq, get_or-set_same, get_or-set_other)
