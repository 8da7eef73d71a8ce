-- Functions to the integers that change by at most one at each step.
use Rattle.vers_trees.proofs.Names.{ℕ, zero, suc, ◌+◌, ◌<◌, ◌≤◌, ◌≢◌, ℤ, pos, ◌+ℤ◌, ◌-ℤ◌, ◌≤ℤ◌, ◌<ℤ◌, arith, subst, ◌≡◌, Bool, true, false, List, [], ◌∷◌, ◌++◌, length, get_or, add-one, zero-add, suc-add, sym, refl, ints, sum_by-cons, count, excess, bit_step, count_near, count_up, eq-or-lt_of_le, ⊎_elim, take-append-le, common_steps, true_from_ne_false, false_from_ne_true}

pub record IsWalk (f : ℕ → ℤ) : Type 0 where
  pub up : (i : ℕ) → f (i + 1) ≤ℤ (f i +ℤ pos 1)
  pub down : (i : ℕ) → f i ≤ℤ (f (i + 1) +ℤ pos 1)

-- a walk that begins above x, or ends above it, and is never x between stays above it
pub above_until : (f : ℕ → ℤ) → IsWalk f → (x : ℤ) (a b : ℕ) → a ≤ b → x <ℤ f a → ((k : ℕ) → a < k → k ≤ b → f k ≢ x) → x <ℤ f b
above_until f w x a zero le h ne = subst (λ (n : ℕ). x <ℤ f n) (let e : a ≡ 0 = omega arith in e) h
above_until f w x a (suc b) le h ne = ⊎_elim
    (λ (e : a ≡ suc b). subst (λ (n : ℕ). x <ℤ f n) e h)
    (λ (l : a < suc b).
    let ih = above_until f w x a b (omega arith) h (λ k g m. ne k g (omega arith)) in
    let here = ne (suc b) l (omega arith) in let step = rw add-one at (w.down b) in omega (arith, ints))
    (eq-or-lt_of_le le)

pub above_since : (f : ℕ → ℤ) → IsWalk f → (x : ℤ) (a b : ℕ) → a ≤ b → x <ℤ f b → ((k : ℕ) → a ≤ k → k < b → f k ≢ x) → x <ℤ f a
above_since f w x a zero le h ne = subst (λ (n : ℕ). x <ℤ f n) (let e : 0 ≡ a = omega arith in e) h
above_since f w x a (suc b) le h ne = ⊎_elim
    (λ (e : a ≡ suc b). subst (λ (n : ℕ). x <ℤ f n) (sym e) h)
    (λ (l : a < suc b).
    let here = ne b (omega arith) (omega arith) in let step = rw add-one at (w.up b) in
    above_since f w x a b (omega arith) (omega (arith, ints)) (λ k g m. ne k g (omega arith)))
    (eq-or-lt_of_le le)

-- a walk below x, turned over, is one above
pub turned : (f : ℕ → ℤ) → IsWalk f → IsWalk (λ i. pos 0 -ℤ f i)
turned f w = record { up = λ i. let d = w.down i in omega (arith, ints); down = λ i. let u = w.up i in omega (arith, ints) }

-- ---- what the excess is along a list
pub excess-zero : (l : List Bool) → excess l 0 ≡ pos 0
unfolding excess count
excess-zero l = refl

pub excess-nil : (i : ℕ) → excess [] i ≡ pos 0
unfolding excess count
excess-nil zero = refl
excess-nil (suc i) = refl

-- past its first bit a list's excess is that bit's step more
pub excess-cons : (b : Bool) (l : List Bool) (i : ℕ) → excess (b ∷ l) (suc i) ≡ excess l i +ℤ bit_step b
unfolding excess count
excess-cons true l i = grind (arith, common_steps, sum_by-cons)
excess-cons false l i = grind (arith, common_steps, sum_by-cons)

-- along a list the excess is a walk
pub excess-is_walk : (l : List Bool) → IsWalk (excess l)
unfolding excess
excess-is_walk l = record {
  up = λ i. omega (arith, ints, count_near true l i (i + 1) (omega arith), count_up false l i (i + 1) (omega arith));
  down = λ i. omega (arith, ints, count_near false l i (i + 1) (omega arith), count_up true l i (i + 1) (omega arith));
}

-- past a one the excess is one more, past a zero one less
pub excess_after_bit : (l : List Bool) (i : ℕ) (d : Bool) → i < length l → excess l (i + 1) ≡ excess l i +ℤ bit_step (get_or l i d)
excess_after_bit [] i d h = absurd (omega arith)
excess_after_bit (b ∷ l) zero d h = grind (arith, ints, excess-zero, excess-cons)
excess_after_bit (b ∷ l) (suc i) d h = let ih = rw add-one at (excess_after_bit l i d (omega arith)) in let e = excess-cons b l i in let r = excess-cons b l (suc i) in rw add-one (omega (arith, ints))

pub excess_after_open : (l : List Bool) (i : ℕ) (d : Bool) → i < length l → get_or l i d ≡ true → excess l (i + 1) ≡ excess l i +ℤ pos 1
excess_after_open l i d h b = rw b at (excess_after_bit l i d h)

pub excess_after_close : (l : List Bool) (i : ℕ) (d : Bool) → i < length l → get_or l i d ≡ false → excess l (i + 1) ≡ excess l i -ℤ pos 1
excess_after_close l i d h b = omega (arith, ints, rw b at (excess_after_bit l i d h))

-- along a list appended to another
pub excess-append_left : (k l : List Bool) (i : ℕ) → i ≤ length k → excess (k ++ l) i ≡ excess k i
unfolding excess count
excess-append_left k l i h = rw (take-append-le i k l h)

pub excess-append_right : (k l : List Bool) (i : ℕ) → excess (k ++ l) (length k + i) ≡ excess k (length k) +ℤ excess l i
excess-append_right [] l i = grind (arith, ints, excess-zero, zero-add)
excess-append_right (b ∷ k) l i = let ih = excess-append_right k l i in let e = excess-cons b (k ++ l) (length k + i) in let r = excess-cons b k (length k) in rw (suc-add) (omega (arith, ints))

-- the bit at a position at which the excess rises, and at one at which it falls
pub open_from_rise : (l : List Bool) (i : ℕ) (d : Bool) → i < length l → excess l i <ℤ excess l (i + 1) → get_or l i d ≡ true
open_from_rise l i d h r = true_from_ne_false _ (λ b. let e = rw b at (excess_after_bit l i d h) in omega (arith, ints))

pub close_from_fall : (l : List Bool) (i : ℕ) (d : Bool) → i < length l → excess l (i + 1) <ℤ excess l i → get_or l i d ≡ false
close_from_fall l i d h r = false_from_ne_true _ (λ b. let e = rw b at (excess_after_bit l i d h) in omega (arith, ints))
