-- The words of lists of bits.
use Rattle.vers_saved.proofs.Names.{◌≡◌, ℕ, ◌-◌, ◌*◌, ◌<◌, min, Bool, List, length, get_or, take, drop, refl, sym, ap, ◌∙◌, inl, inr, arith, cases_lt, take_all, length-drop, number, part, limb, limbs, length-limbs, get_or-limbs}

-- limb k of a list begins inside it
pub limb_inside : (bits : List Bool) (k : ℕ) → k < length (limbs bits) → (limbs bits ≡ limbs bits) × (64 * k < length bits)
limb_inside bits k h = (refl, omega (arith, length-limbs bits))

pub limb_at : (bits : List Bool) (k : ℕ) → k < length (limbs bits) → get_or (limbs bits) k 0 ≡ limb bits k
limb_at bits k h = get_or-limbs bits k (omega (arith, length-limbs bits))

-- it is the number of as many bits as there are
pub limb_part : (bits : List Bool) (k : ℕ) → k < length (limbs bits) → get_or (limbs bits) k 0 ≡ number (part bits (64 * k) (min (length bits - 64 * k) 64))
unfolding limb
limb_part bits k h = limb_at bits k h ∙ elim (cases_lt (length bits - 64 * k) 64) [
  | inl few ↦
      let least : min (length bits - 64 * k) 64 ≡ length bits - 64 * k = omega arith in
      ap number (take_all 64 (drop (64 * k) bits) (omega (arith, length-drop (64 * k) bits))
      ∙ sym (take_all (length bits - 64 * k) (drop (64 * k) bits) (omega (arith, length-drop (64 * k) bits))) ∙ ap (λ m. take m (drop (64 * k) bits)) (sym least))
  | inr many ↦
      let least : min (length bits - 64 * k) 64 ≡ 64 = omega arith in
      ap (λ m. number (take m (drop (64 * k) bits))) (sym least)
]

pub ruleset bits = (length-limbs, limb_inside, limb_at, limb_part)
