-- What was saved is loaded.
use Rattle.vers_saved.proofs.Names.{◌≡◌, ℕ, ◌*◌, ◌+◌, ◌^◌, ◌<◌, ◌≤◌, List, length, sym, ap, ◌∙◌, arith, false, None, limb_count, Kind, saved, item_bits, rows_of, row_bits, row_words, words_for, version_fault, IsWhole}
use Rattle.vers_saved.proofs.Shapes.{parts_of, shape_bounds, bounds_are, flat_words}
use Rattle.vers_saved.proofs.WordBytes.{length-bytes_of}
use Rattle.vers_saved.proofs.SavedForms.{all_words, length-all_words, saved_has_no_fault, same_words}

-- the bounds of a kind are words
abbrev pub AreBounds : Kind → Type 0
AreBounds kind = (kind.version < 2 ^ 64) × (kind.number < 2 ^ 64) × (kind.greatest_width < 2 ^ 64) × (kind.greatest_count < 2 ^ 64)

pub shape_fits : (kind : Kind) (count width : ℕ) (words : List ℕ) → AreBounds kind → IsWhole kind count width words → (count < 2 ^ 64) × (width < 2 ^ 64)
shape_fits kind count width words bounds whole = omega (arith, shape_bounds kind count width whole.may)

-- a form has no fault
pub no_fault_back : (kind : Kind) (bytes : List ℕ) (count width : ℕ) (words : List ℕ) → AreBounds kind → IsWhole kind count width words
    → bytes ≡ saved kind.version kind.number count width words → version_fault kind bytes ≡ None
no_fault_back kind bytes count width words bounds whole e =
    let fits = shape_fits kind count width words bounds whole in
    ap (version_fault kind) e ∙ saved_has_no_fault kind count width words bounds.0 bounds.1 fits.0 fits.1 whole

-- one form is of one shape and the same words
pub one_form : (kind : Kind) (bytes : List ℕ) (c w c' w' : ℕ) (xs ys : List ℕ) → AreBounds kind → IsWhole kind c w xs → IsWhole kind c' w' ys
    → bytes ≡ saved kind.version kind.number c w xs → bytes ≡ saved kind.version kind.number c' w' ys → (c ≡ c') × (w ≡ w') × (xs ≡ ys)
one_form kind bytes c w c' w' xs ys bounds hx hy e f =
    let x = shape_fits kind c w xs bounds hx in
    let y = shape_fits kind c' w' ys bounds hy in
    same_words kind.version kind.number c w c' w' xs ys bounds.0 bounds.1 x.0 x.1 y.0 y.1 hx.fit hy.fit (sym e ∙ f)

-- how long a form is
pub length-saved : (version kind count width : ℕ) (words : List ℕ) → length (saved version kind count width words) ≡ 8 * (length words + 6)
unfolding saved
length-saved version kind count width words = length-bytes_of (all_words version kind count width words) ∙ ap (λ m. 8 * m) (length-all_words version kind count width words)

-- as many words as the shape gives
pub count_is : (kind told : Kind) (count width c w rows bits : ℕ) (words : List ℕ) → IsWhole kind count width words → told ≡ kind → c ≡ count → w ≡ width → rows ≡ rows_of told w → bits ≡ row_bits told c w
    → row_words rows bits ≡ length words
count_is kind told count width c w rows bits words whole is_kind is_count is_width is_rows is_bits = rw (is_rows, is_bits, is_kind, is_count, is_width) (sym whole.counted)

pub said_small : (kind told : Kind) (count width c w : ℕ) (words : List ℕ) → IsWhole kind count width words → told ≡ kind → c ≡ count → w ≡ width
    → words_for told c w ≤ 288230376151711743
said_small kind told count width c w words whole is_kind is_count is_width = rw (is_kind, is_count, is_width) (parts_of kind count width whole.may).2

-- the same of items one after another
pub flat_count : (kind : Kind) (count width : ℕ) (words : List ℕ) → IsWhole kind count width words → kind.by_levels ≡ false → length words ≡ limb_count (count * item_bits kind width)
flat_count kind count width words whole flat = whole.counted ∙ flat_words kind count width flat

pub flat_small : (kind : Kind) (count width : ℕ) (words : List ℕ) → IsWhole kind count width words → kind.by_levels ≡ false → count * item_bits kind width ≤ 18446744073709551552
flat_small kind count width words whole flat = (bounds_are kind count width words flat whole).4

pub ruleset sizes = (length-saved)

pub ruleset counts = (count_is, said_small, flat_count, flat_small)
