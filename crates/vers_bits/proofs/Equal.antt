-- The words follow from the bits that they have.
use Rattle.vers_bits.proofs.Names.{◌≡◌, ℕ, ◌+◌, ◌*◌, ◌/◌, ◌%◌, ◌^◌, ◌<◌, Bool, false, eqb, List, length, get_or, refl, sym, ◌∙◌, ap, arith, fill_by_all, length-map-range_with_len, get_or-map-range_with_len, ext_get_or, false≢true, bit_at, Decides, bit_value, limb, limb_count, word_bits, HoldsBits, pointwise, bytes_eq-Decides, limbs, same_bits, same_bits-Decides, cases_Bool}
use Rattle.vers_bits.proofs.Words.{length-word_bits, limb-word_bits}
use Rattle.vers_bits.proofs.Num.{limb_bit}

pub limbs-word_bits : (words : List ℕ) (n : ℕ) → HoldsBits words n → ((k : ℕ) → get_or words k 0 < 2 ^ 64) → words ≡ limbs (word_bits words n)
unfolding limbs
limbs-word_bits words n h fits =
    fill_by_all (limb (word_bits words n)) words (limb_count (length (word_bits words n))) 0 (h.counted ∙ ap limb_count (sym (length-word_bits words n)))
    (λ k p. grind (arith, limb-word_bits))

-- position i of a list is a digit of its limb
pub bit_at-limb : (l : List Bool) (i : ℕ) → bit_at (limb l (i / 64)) (i % 64) ≡ bit_value (get_or l i false)
bit_at-limb l i = let position : 64 * (i / 64) + i % 64 ≡ i = omega arith in rw (limb_bit l (i / 64) (i % 64) (omega arith), position) refl

pub length-limbs : (l : List Bool) → length (limbs l) ≡ limb_count (length l)
unfolding limbs
length-limbs l = length-map-range_with_len (limb l) 0 (limb_count (length l))

pub get_or-limbs : (l : List Bool) (k : ℕ) → k < limb_count (length l) → get_or (limbs l) k 0 ≡ limb l k
unfolding limbs
get_or-limbs l k h = get_or-map-range_with_len (limb l) 0 (limb_count (length l)) k k 0 h (omega arith)

-- lists of one length with equal limbs are equal
pub equal_limbs : (xs ys : List Bool) → length xs ≡ length ys → limbs xs ≡ limbs ys → xs ≡ ys
equal_limbs xs ys e same =
    ext_get_or false xs ys e (λ i h.
    let held : limb xs (i / 64) ≡ limb ys (i / 64) = rw (← get_or-limbs xs (i / 64) (omega arith), ← get_or-limbs ys (i / 64) (omega arith), same) refl in
    grind (arith, held, bit_at-limb xs i, bit_at-limb ys i, cases_Bool (get_or xs i false), cases_Bool (get_or ys i false)))

-- two tests of facts that imply each other
decides_same : (r s : Bool) (P Q : Type 0) → Decides r P → Decides s Q → (P → Q) → (Q → P) → r ≡ s
decides_same r s P Q a b f h = grind arith

-- lists of one length are equal exactly where their limbs are
pub same_limbs : (xs ys : List Bool) → length xs ≡ length ys → pointwise eqb (limbs xs) (limbs ys) ≡ same_bits xs ys
same_limbs xs ys e = grind (arith, decides_same, bytes_eq-Decides, same_bits-Decides, equal_limbs)

-- lists of other lengths are not equal
pub lengths_differ : (xs ys : List Bool) → (length xs ≡ length ys → ⊥) → false ≡ same_bits xs ys
lengths_differ xs ys h = grind (arith, decides_same, false≢true, same_bits-Decides)

pub ruleset equality = (same_limbs, lengths_differ)

pub ruleset words = (limbs-word_bits)
