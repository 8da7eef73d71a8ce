-- Saved forms of parentheses.
use Rattle.vers_saved.proofs.Names.{◌⊎◌, inl, inr, may_be_saved, ◌≡◌, ℕ, ◌+◌, ◌-◌, ◌*◌, ◌<◌, ◌≤◌, min, Bool, false, List, length, get_or, take, drop, sym, ap, refl, ◌∙◌, arith, number, limbs, length-limbs, IsWhole, tree_kind}
use Rattle.vers_saved.proofs.Shapes.{refuted, shape_bounds, bounds_are, within_bounds}
use Rattle.vers_saved.proofs.BitLists.{whole_bits}
use Rattle.vers_saved.proofs.Sources.{limb_part}

pub last_limb : (bits : List Bool) (k end : ℕ) → k < length (limbs bits) → end ≡ min (length bits) (64 * k + 64) → number (take (end - 64 * k) (drop (64 * k) bits)) ≡ get_or (limbs bits) k 0
last_limb bits k end h is =
    let same : end - 64 * k ≡ min (length bits - 64 * k) 64 = omega (arith, length-limbs bits) in
    ap (λ m. number (take m (drop (64 * k) bits))) same ∙ sym (limb_part bits k h)

pub none_yet : (bits : List Bool) (p : ℕ) → number (take (p - p) (drop p bits)) ≡ 0
none_yet bits p = let none : p - p ≡ 0 = omega arith in ap (λ m. number (take m (drop p bits))) none

pub whole_tree : (size : ℕ) (bits : List Bool) → 1 ≤ size → size ≤ 4294967296 → length bits ≤ 9223372036854775807 → IsWhole (tree_kind size) (length bits) size (limbs bits)
whole_tree size bits some few small =
    whole_bits (tree_kind size) (length bits) size bits refl (within_bounds (tree_kind size) (length bits) size refl (omega (arith, some, few, small))) (omega arith) refl

pub tree_size : (size count width : ℕ) (words : List ℕ) → IsWhole (tree_kind size) count width words → (1 ≤ size) × (size ≤ 4294967296) × (size ≡ width)
tree_size size count width words whole = let b = bounds_are (tree_kind size) count width words refl whole in (omega (arith, b), omega (arith, b), omega (arith, b))

pub no_tree : (size count : ℕ) → (size ≡ 0) ⊎ (4294967296 < size) → may_be_saved (tree_kind size) count size ≡ false
no_tree size count wrong = refuted _ (λ may. let b = shape_bounds (tree_kind size) count size may in elim wrong [ inl none ↦ omega (arith, b.0) | inr wide ↦ omega (arith, b.1) ])

pub tree_flat : (size : ℕ) → (tree_kind size).by_levels ≡ false
tree_flat size = refl

pub ruleset trees = (whole_tree, tree_size, tree_flat)
