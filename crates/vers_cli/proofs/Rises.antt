-- Numbers that ascend, read from the front.
use Rattle.vers_cli.proofs.Names.{◌≡◌, ◌==◌, ◌<◌, ◌+◌, ◌-◌, ℕ, Bool, true, false, List, [], ◌∷◌, length, get_or, Option, Some, None, refl, ap, ◌∙◌, arith, ◌||◌, ◌&&◌, All, nat_le, nat_lt, option_map, option_and_then, if◌then◌else◌, list_all, ne_eqb, and_parts, ltb-true, AllPass-from_list_all, same_Some, each_next, number_of, all_numbers, first_numbers, first_then}
use Rattle.std.proofs.lemmas.Bool.Decides.{nat_tests}
use Rattle.vers_sorted.specs.Layout.{last_of}

-- numbers after others of which the last is `last`: how many they are with those before them, and the last of all; None where they don't ascend
abbrev pub rise_from : (ℕ → ℕ → Bool) → ℕ → ℕ → List ℕ → Option (ℕ × ℕ)
rise_from order len last [] = Some (len, last)
rise_from order len last (n ∷ more) = if (len == 0) || order last n then rise_from order (len + 1) n more else None

-- the same of numbers that may not be there
abbrev pub rise_after : (ℕ → ℕ → Bool) → ℕ → ℕ → Option (List ℕ) → Option (ℕ × ℕ)
rise_after order len last found = option_and_then (rise_from order len last) found

pub rise_after-next : (order : ℕ → ℕ → Bool) (len last n : ℕ) (others : Option (List ℕ)) (admits : Bool) → ((len == 0) || order last n) ≡ admits
    → rise_after order len last (option_map (λ more. n ∷ more) others) ≡ (if admits then rise_after order (len + 1) n others else None)
rise_after-next order len last n None true h = refl
rise_after-next order len last n None false h = refl
rise_after-next order len last n (Some more) admits h = rw h refl

if_some : {X : Type 0} (b : Bool) (x : Option X) (v : X) → (if b then x else None) ≡ Some v → (b ≡ true) × (x ≡ Some v)
if_some true x v h = (refl, h)
if_some false x v h = cc

-- after a first number
more_rise : (order : ℕ → ℕ → Bool) (len last : ℕ) (numbers : List ℕ) (end : ℕ × ℕ) → 0 < len → rise_from order len last numbers ≡ Some end
    → (each_next order (last ∷ numbers) ≡ true) × (end.0 ≡ len + length numbers) × (end.1 ≡ get_or (last ∷ numbers) (length numbers) 0)
more_rise order len last [] end some h = grind arith
more_rise order len last (n ∷ more) end some h =
    let counted : (len == 0) ≡ false = ne_eqb len 0 (λ e. omega arith) in
    let p = if_some (order last n) (rise_from order (len + 1) n more) end (rw counted at h) in
    let r = more_rise order (len + 1) n more end (omega arith) p.1 in
    (rw (p.0, r.0) refl, omega (arith, r.1), r.2)

pub rise : (order : ℕ → ℕ → Bool) (numbers : List ℕ) (end : ℕ × ℕ) → rise_from order 0 0 numbers ≡ Some end
    → (each_next order numbers ≡ true) × (end.0 ≡ length numbers) × (end.1 ≡ last_of numbers)
rise order [] end h = grind arith
rise order (n ∷ more) end h = grind (arith, more_rise)

more_fall : (order : ℕ → ℕ → Bool) (len last : ℕ) (numbers : List ℕ) → 0 < len → rise_from order len last numbers ≡ None → each_next order (last ∷ numbers) ≡ false
more_fall order len last [] some h = cc
more_fall order len last (n ∷ more) some h =
    let counted : (len == 0) ≡ false = ne_eqb len 0 (λ e. omega arith) in
    let k : (if order last n then rise_from order (len + 1) n more else None) ≡ None = rw counted at h in
    elim (order last n) as (λ b. (if b then rise_from order (len + 1) n more else None) ≡ None → (b && each_next order (n ∷ more)) ≡ false) [
      | true ↦ λ e. more_fall order (len + 1) n more (omega arith) e
      | false ↦ λ e. refl
    ] k

pub fall : (order : ℕ → ℕ → Bool) (numbers : List ℕ) → rise_from order 0 0 numbers ≡ None → each_next order numbers ≡ false
fall order [] h = cc
fall order (n ∷ more) h = more_fall order 1 n more (omega arith) h

-- ---- the numbers of a line

-- where each word writes a number, these are all
first_at : (n : Option ℕ) (others : Option (List ℕ)) (first numbers : List ℕ) → ((xs : List ℕ) → others ≡ Some xs → first ≡ xs)
    → option_and_then (λ k. option_map (λ xs. k ∷ xs) others) n ≡ Some numbers → first_then n first ≡ numbers
first_at None others first numbers rest h = cc
first_at (Some k) None first numbers rest h = cc
first_at (Some k) (Some xs) first numbers rest h = ap (λ l. k ∷ l) (rest xs refl) ∙ same_Some (k ∷ xs) numbers h

pub all_first : (words : List (List ℕ)) (numbers : List ℕ) → all_numbers words ≡ Some numbers → first_numbers words ≡ numbers
all_first [] numbers h = same_Some [] numbers h
all_first (word ∷ more) numbers h = first_at (number_of word) (all_numbers more) (first_numbers more) numbers (all_first more) h

-- what is known of numbers that ascend
pub told : (order : ℕ → ℕ → Bool) (words : List (List ℕ)) (found : Option (List ℕ)) (end : ℕ × ℕ)
    → all_numbers words ≡ found → rise_after order 0 0 found ≡ Some end
    → (all_numbers words ≡ Some (first_numbers words)) × ((each_next order (first_numbers words) ≡ true) × (end.0 ≡ length (first_numbers words)) × (end.1 ≡ last_of (first_numbers words)))
told order words None end e h = cc
told order words (Some numbers) end e h = rw (all_first words numbers e) (e, rise order numbers end h)

-- and of those that don't
pub not_told : (order : ℕ → ℕ → Bool) (found : Option (List ℕ)) (numbers : List ℕ) → rise_after order 0 0 found ≡ None → found ≡ Some numbers → each_next order numbers ≡ false
not_told order found numbers h e = fall order numbers (rw e at h)

-- ---- positions of ones

-- all positions that ascend strictly are below a limit where the last one is
last_below : (limit p : ℕ) (positions : List ℕ) → each_next nat_lt (p ∷ positions) ≡ true
    → nat_lt (get_or (p ∷ positions) (length positions) 0) limit ≡ list_all (λ position. nat_lt position limit) (p ∷ positions)
last_below limit p [] up = grind arith
last_below limit p (q ∷ positions) up =
    let parts = and_parts (nat_lt p q) (each_next nat_lt (q ∷ positions)) up in
    grind (arith, nat_tests, last_below limit q positions parts.1, parts.0)

pub all_below : (limit last len : ℕ) (positions : List ℕ) → each_next nat_lt positions ≡ true → len ≡ length positions → last ≡ last_of positions
    → ((len == 0) || nat_lt last limit) ≡ list_all (λ position. nat_lt position limit) positions
all_below limit last len [] up counted end = rw counted refl
all_below limit last len (p ∷ positions) up counted end =
    let at : length (p ∷ positions) - 1 ≡ length positions = omega arith in
    let some : (length (p ∷ positions) == 0) ≡ false = ne_eqb (length (p ∷ positions)) 0 (λ e. omega arith) in
    rw (counted, end, some) (ap (λ k. nat_lt (get_or (p ∷ positions) k 0) limit) at ∙ last_below limit p positions up)

pub all_are_below : (limit : ℕ) (positions : List ℕ) → list_all (λ position. nat_lt position limit) positions ≡ true → All (λ position. position < limit) positions
all_are_below limit positions h k d l = ltb-true _ _ (AllPass-from_list_all (λ position. nat_lt position limit) positions h k d l)

-- numbers that ascend strictly ascend
pub rising_ascends : (numbers : List ℕ) → each_next nat_lt numbers ≡ true → each_next nat_le numbers ≡ true
rising_ascends [] h = refl
rising_ascends (n ∷ []) h = refl
rising_ascends (n ∷ next ∷ more) h =
    let parts = and_parts (nat_lt n next) (each_next nat_lt (next ∷ more)) h in
    let here : nat_le n next ≡ true = grind (arith, nat_tests, parts.0) in
    rw (here, rising_ascends (next ∷ more) parts.1) refl
