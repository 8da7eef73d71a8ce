-- Numbers by their octal digits, and what an entry of a table of bytes is packed of.
use Rattle.vers_trees.proofs.Names.{◌≡◌, ℕ, zero, suc, ◌+◌, ◌-◌, ◌*◌, ◌/◌, ◌%◌, ◌^◌, ◌<◌, ◌≤◌, List, [], ◌∷◌, length, drop, get_or, arith, ap, ◌∙◌, ◌≢◌, ◌⊎◌, inr, Bool, true, false, pos, ◌+ℤ◌, ◌-ℤ◌, cond, min, max, ⊎_elim, refl, replicate, nat_eq, set, pow-suc, pow-le-pow_right, drop-cons, length-drop, get_or-drop, get_or-set_same, get_or-set_other, shr-shr, IsByte, sum_along, position_along, octal, HasMet, step_along, ints, cases_lt, bit_at-number, excess, bit_step}
use Rattle.vers_trees.proofs.grammar.Excess.{excess-zero, excess_after_bit}

-- each of the digits is below 8
abbrev pub AreOctal : List ℕ → Type 0
AreOctal ds = (x : ℕ) → get_or ds x 7 < 8

octal-lt : (ds : List ℕ) → AreOctal ds → octal ds < 8 ^ length ds
octal-lt [] h = omega arith
octal-lt (d ∷ ds) h = omega (arith, pow-suc 8 (length ds), octal-lt ds (λ x. h (suc x)), h 0)

-- of 17 digits the number is below 2 ^ 51, whatever number of the lowest is left out
pub octal_small : (ds : List ℕ) (i : ℕ) → length ds ≡ 17 → AreOctal ds → octal (drop i ds) < 2 ^ 51
octal_small ds i e h =
    let l = length-drop i ds in
    let m : 8 ^ length (drop i ds) ≤ 8 ^ 17 = pow-le-pow_right {n = 8} (let z : 0 < 8 = omega arith in z) {i = length (drop i ds)} {j = 17} (omega arith) in
    grind (arith, ints, octal-lt, get_or-drop)

-- the digit before
pub octal_more : (ds : List ℕ) (x number d : ℕ) → 0 < x → x ≤ length ds → number ≡ octal (drop x ds) → 8 * number + get_or ds (x - 1) d ≡ octal (drop (x - 1) ds)
octal_more ds x number d some h e = grind (arith, drop-cons)

-- digit x
pub octal-digit : (ds : List ℕ) (x : ℕ) → AreOctal ds → x < length ds → octal ds / 2 ^ (3 * x) % 8 ≡ get_or ds x 7
octal-digit [] x h i = absurd (omega arith)
octal-digit (d ∷ ds) zero h i = omega (arith, h 0)
octal-digit (d ∷ ds) (suc x) h i = grind (arith, ints, shr-shr (octal (d ∷ ds)) 3 (3 * x), octal-digit ds x (λ y. h (suc y)) (omega arith), h 0)

-- ---- how the entry of a byte is met, step by step along its bits
-- before the first step
pub met_nothing : (from_end : Bool) (bits : List Bool) (positions : List ℕ) → ((x : ℕ) → get_or positions x 7 ≡ 7) → HasMet from_end bits 0 8 9 7 positions
met_nothing from_end bits positions all = grind (arith, excess-zero)

-- a step at a bit adds to the sum
step_by : (from_end b : Bool) → step_along from_end b ≡ cond from_end (pos 0 -ℤ bit_step b) (bit_step b)
step_by from_end b = grind arith

next_sum : (from_end : Bool) (bits : List Bool) (n : ℕ) → length bits ≡ 8 → n < 8 → sum_along from_end bits (n + 1) ≡ sum_along from_end bits n +ℤ step_along from_end (get_or bits (position_along from_end n) false)
next_sum false bits n e h = grind (arith, ints, step_by, excess_after_bit)
next_sum true bits n e h =
    let a : excess bits (7 - n + 1) ≡ excess bits (8 - n) = ap (excess bits) (omega arith) in
    let b : excess bits (8 - (n + 1)) ≡ excess bits (7 - n) = ap (excess bits) (omega arith) in
    omega (arith, ints, step_by true (get_or bits (7 - n) false), excess_after_bit bits (7 - n) false (omega arith))

pub up_or_down : (from_end b : Bool) (value next : ℕ) → pos next ≡ pos value +ℤ step_along from_end b → (next ≡ value + 1) ⊎ (next + 1 ≡ value)
up_or_down from_end b value next u = grind arith

-- what the code has after a step: the bounds, and the positions
pub record IsNoted (least greatest next p : ℕ) (positions : List ℕ) (least' greatest' : ℕ) (positions' : List ℕ) : Type 0 where
  pub lower : least' ≡ min least next
  pub upper : greatest' ≡ max greatest next
  pub again : least ≤ next → next ≤ greatest → positions' ≡ positions
  pub first : (next < least) ⊎ (greatest < next) → positions' ≡ set positions next p

-- the position of a sum after a step: that of the step if the sum is met for the first time, otherwise what it was
noted_at : (least greatest next p : ℕ) (positions : List ℕ) (least' greatest' : ℕ) (positions' : List ℕ) → IsNoted least greatest next p positions least' greatest' positions' → next < length positions → (x : ℕ)
    → (((next < least) ⊎ (greatest < next)) × (next ≡ x) × (get_or positions' x 7 ≡ p)) ⊎ ((((least ≤ next) × (next ≤ greatest)) ⊎ (next ≢ x)) × (get_or positions' x 7 ≡ get_or positions x 7))
noted_at least greatest next p positions least' greatest' positions' w inside x = grind (arith, get_or-set_same, get_or-set_other)

pub met_more : (from_end : Bool) (bits : List Bool) (byte n value least greatest next position : ℕ) (positions : List ℕ) (least' greatest' : ℕ) (positions' : List ℕ) → IsByte bits byte → n < 8 → HasMet from_end bits n value least greatest positions
    → position ≡ position_along from_end n → pos next ≡ pos value +ℤ step_along from_end (nat_eq (byte / 2 ^ position % 2) 1) → next < length positions → IsNoted least greatest next position positions least' greatest' positions'
    → HasMet from_end bits (n + 1) next least' greatest' positions'
met_more from_end bits byte n value least greatest next position positions least' greatest' positions' is h m e u inside w =
    let bit : get_or bits (position_along from_end n) false ≡ nat_eq (byte / 2 ^ position % 2) 1 = grind (arith, ints, bit_at-number) in
    let s = next_sum from_end bits n is.eight h ∙ ap (λ (c : Bool). sum_along from_end bits n +ℤ step_along from_end c) bit in
    let sum : pos next ≡ sum_along from_end bits (n + 1) +ℤ pos 8 = omega (arith, ints) in let near = up_or_down from_end _ value next u in
    let last = λ (k : ℕ) (y : k < n + 1) (z : n ≤ k). ap (sum_along from_end bits) (let g : k + 1 ≡ n + 1 = omega arith in g) in
    record {
      sum = sum;
      around = inr (omega arith, omega arith);
      high = λ k y. ⊎_elim (λ (z : k < n). let o = m.high k z in omega (arith, ints)) (λ (z : n ≤ k). let o = last k y z in omega (arith, ints)) (cases_lt k n);
      low = λ k y. ⊎_elim (λ (z : k < n). let o = m.low k z in omega (arith, ints)) (λ (z : n ≤ k). let o = last k y z in omega (arith, ints)) (cases_lt k n);
      met = λ x a c. ⊎_elim
          (grind (arith, ints))
          (λ (q : (((least ≤ next) × (next ≤ greatest)) ⊎ (next ≢ x)) × (get_or positions' x 7 ≡ get_or positions x 7)).
          let f = m.met x (omega (arith, m.around, near, q.0)) (omega (arith, m.around, near, q.0)) in
          rw q.1 (record { step = f.step; within = omega arith; sum = f.sum; first = f.first; position = f.position }))
          (noted_at least greatest next position positions least' greatest' positions' w inside x);
      absent = λ x o. grind (arith, o, noted_at least greatest next position positions least' greatest' positions' w inside x, m.absent x);
    }

-- the positions stay digits
pub few_more : (least greatest next p : ℕ) (positions : List ℕ) (least' greatest' : ℕ) (positions' : List ℕ) → IsNoted least greatest next p positions least' greatest' positions' → next < length positions → p < 8 → ((x : ℕ) → get_or positions x 7 < 8) → (x : ℕ) → get_or positions' x 7 < 8
few_more least greatest next p positions least' greatest' positions' w inside small old x = omega (arith, noted_at least greatest next p positions least' greatest' positions' w inside x, old x)

-- no position met
pub sevens : (n x : ℕ) → ◌≡◌ {A = ℕ} (get_or (replicate n 7) x 7) 7
sevens zero x = refl
sevens (suc n) zero = refl
sevens (suc n) (suc x) = sevens n x
