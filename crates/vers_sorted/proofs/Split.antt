-- How a number is split into its high and its low part.
use Rattle.vers_sorted.proofs.Names.{◌≡◌, ℕ, ◌+◌, ◌-◌, ◌*◌, ◌^◌, ◌<◌, ◌≤◌, List, length, refl, arith, slice_index, IsNonDecreasing, mod_below, pow_pos, first_of, last_of, low_width, high_of, low_of, high_length}

pub parts_sum : (s : List ℕ) (v : ℕ) → first_of s ≤ v → high_of s v * 2 ^ low_width s + low_of s v ≡ v - first_of s
unfolding high_of low_of
parts_sum s v h = grind (arith)

pub low_below : (s : List ℕ) (v : ℕ) → low_of s v < 2 ^ low_width s
unfolding low_of
low_below s v = mod_below (v - first_of s) (2 ^ low_width s) (pow_pos (low_width s))

-- a greater number has no lower high part
pub high_up : (s : List ℕ) (a b : ℕ) → a ≤ b → first_of s ≤ a → high_of s a ≤ high_of s b
unfolding high_of
high_up s a b h from = grind arith

pub element_from : (s : List ℕ) (i : ℕ) → IsNonDecreasing s → i < length s → first_of s ≤ slice_index s i
element_from s i up h = up 0 i 0 (omega arith) h

pub high_zeros : (s : List ℕ) → 0 < length s → high_length s ≡ 2 + length s + high_of s (last_of s)
unfolding high_length
high_zeros s h = grind (arith)

pub high_none : (s : List ℕ) → length s ≡ 0 → high_length s ≡ 0
unfolding high_length
high_none s e = rw e refl
