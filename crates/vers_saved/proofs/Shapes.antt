-- The shapes of lists that have a saved form.
use Rattle.vers_saved.proofs.Names.{◌≡◌, ℕ, ◌*◌, ◌≤◌, ◌<◌, Bool, true, false, List, length, refl, ap, arith, nat_tests, le-leb, limb_count, Kind, item_bits, takes_width, takes_count, words_for, may_be_saved, IsWhole, and_from, and_parts, leb-true}
use Rattle.vers_saved.proofs.Rows.{row_words-one}

-- what a shape has to meet, test by test
pub parts_of : (kind : Kind) (count width : ℕ) → may_be_saved kind count width ≡ true
    → (takes_width kind width ≡ true) × (takes_count kind count ≡ true) × (words_for kind count width ≤ 288230376151711743)
parts_of kind count width may =
    let outer = and_parts _ _ may in
    let inner = and_parts _ _ outer.1 in (outer.0, inner.0, leb-true _ _ inner.1)

-- the bounds of the width and of the number
pub shape_bounds : (kind : Kind) (count width : ℕ) → may_be_saved kind count width ≡ true
    → (kind.least_width ≤ width) × (width ≤ kind.greatest_width) × (kind.least_count ≤ count) × (count ≤ kind.greatest_count)
shape_bounds kind count width may = grind (arith, parts_of, nat_tests)

-- items one after another fill one row
pub flat_words : (kind : Kind) (count width : ℕ) → kind.by_levels ≡ false → words_for kind count width ≡ limb_count (count * item_bits kind width)
flat_words kind count width flat = rw flat (row_words-one (count * item_bits kind width))

-- and bound by bound, for these
abbrev pub InBounds : Kind → (count width : ℕ) → Type 0
InBounds kind count width =
    (kind.least_width ≤ width) × (width ≤ kind.greatest_width) × (kind.least_count ≤ count) × (count ≤ kind.greatest_count) × (count * item_bits kind width ≤ 18446744073709551552)

pub bounds_are : (kind : Kind) (count width : ℕ) (words : List ℕ) → kind.by_levels ≡ false → IsWhole kind count width words → InBounds kind count width
bounds_are kind count width words flat whole =
    let b = shape_bounds kind count width whole.may in
    (b.0, b.1, b.2, b.3, omega (arith, flat_words kind count width flat, (parts_of kind count width whole.may).2))

pub within_bounds : (kind : Kind) (count width : ℕ) → kind.by_levels ≡ false → InBounds kind count width → may_be_saved kind count width ≡ true
within_bounds kind count width flat b =
    and_from _ _ (and_from _ _ (le-leb _ _ b.0) (le-leb _ _ b.1)) (and_from _ _ (and_from _ _ (le-leb _ _ b.2) (le-leb _ _ b.3)) (le-leb _ _ (omega (arith, flat_words kind count width flat, b.4))))

-- of items of 64 bits there are as many as words
pub as_many : (kind : Kind) (count width : ℕ) (words : List ℕ) → kind.by_levels ≡ false → item_bits kind width ≡ 64 → IsWhole kind count width words → count ≡ length words
as_many kind count width words flat each whole =
    let all : count * item_bits kind width ≡ count * 64 = ap (λ m. count * m) each in
    omega (arith, all, whole.counted, flat_words kind count width flat, (bounds_are kind count width words flat whole).4)

-- a test that cannot be passed fails
pub refuted : (b : Bool) → (b ≡ true → ⊥) → b ≡ false
refuted true h = absurd (h refl)
refuted false h = refl

-- items that fill too many words are not saved
pub too_many : (kind : Kind) (count width : ℕ) → 288230376151711743 < words_for kind count width → may_be_saved kind count width ≡ false
too_many kind count width many = refuted _ (λ may. omega (arith, many, (parts_of kind count width may).2))
