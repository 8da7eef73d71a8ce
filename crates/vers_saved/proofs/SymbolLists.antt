-- Saved forms of lists of symbols.
use Rattle.vers_saved.proofs.Names.{number_below, ◌≡◌, ℕ, zero, suc, ◌+◌, ◌-◌, ◌*◌, ◌/◌, ◌%◌, ◌^◌, ◌<◌, ◌≤◌, Bool, List, ◌++◌, length, get_or, take, drop, refl, sym, ap, ◌∙◌, arith, map, All, Result, Ok, Err, take-add, drop-drop, take_all, take-take, drop-take, length-take, number, low_bits, part, limbs, limb_count, pack, number-take, length-packed, PACKED_SYMBOLS, IsWhole, AreWords, EndsPadded, IfOk, mul-le-mul_right, mul-div_cancel, mul-mod_left, le-mul_of_pos_right, mod-eq-sub-div-mul, div-mul-le_self, All-map, number-drop, low_bits_of_part, packed_symbols}
use Rattle.std.specs.List.{range_with_len}
use Rattle.std.proofs.lemmas.List.FromFn.{length-map-range_with_len}
use Rattle.vers_wavelet.specs.Symbols.{Symbols}
use Rattle.vers_saved.proofs.Rows.{one_padded}
use Rattle.vers_saved.proofs.Shapes.{bounds_are, flat_words, within_bounds}
use Rattle.vers_saved.proofs.BitLists.{whole_bits}

pub length-packed_items : (items : List ℕ) (k : ℕ) → length (pack items k) ≡ length items * k
length-packed_items items k = length-packed (λ v. v) k items

-- ---- parts of numbers

-- the number of bits, by that of the first of them and that of the others
pub number_split : (bits : List Bool) (n k : ℕ) → number (take (n + k) bits) ≡ number (take n bits) + 2 ^ n * number (take k (drop n bits))
number_split bits n k =
    let first : number (take n bits) ≡ number (take (n + k) bits) % 2 ^ n = ap number (sym (take-take n (n + k) bits (omega arith))) ∙ number-take n (take (n + k) bits) in
    let rest : number (take k (drop n bits)) ≡ number (take (n + k) bits) / 2 ^ n = ap number (sym (drop-take n k bits)) ∙ number-drop n (take (n + k) bits) in
    omega (arith, first, rest, ap (λ m. 2 ^ n * m) rest, mod-eq-sub-div-mul (number (take (n + k) bits)) (2 ^ n), div-mul-le_self (number (take (n + k) bits)) (2 ^ n))

-- ---- symbols that bits hold

-- the symbols that bits hold, packed, are the bits
packed_from : (bits : List Bool) (k a m : ℕ) → (a + m) * k ≤ length bits
    → pack (map (λ e. number (part bits (e * k) k)) (range_with_len a m)) k ≡ take (m * k) (drop (a * k) bits)
packed_from bits k a zero h = let none : 0 * k ≡ 0 = omega arith in sym (ap (λ p. take p (drop (a * k) bits)) none)
packed_from bits k a (suc m) h =
    let next : (a + 1) * k ≡ a * k + k = grind arith in
    let more : suc m * k ≡ k + m * k = grind arith in
    let first : low_bits (number (part bits (a * k) k)) k ≡ take k (drop (a * k) bits) = low_bits_of_part bits (a * k) k (omega arith) in
    let others : pack (map (λ e. number (part bits (e * k) k)) (range_with_len (a + 1) m)) k ≡ take (m * k) (drop k (drop (a * k) bits)) =
    packed_from bits k (a + 1) m (omega arith) ∙ ap (λ p. take (m * k) (drop p bits)) next ∙ ap (take (m * k)) (sym (drop-drop k (a * k) bits)) in
    ap (λ l. l ++ pack (map (λ e. number (part bits (e * k) k)) (range_with_len (a + 1) m)) k) first
    ∙ ap (λ l. take k (drop (a * k) bits) ++ l) others
    ∙ sym (ap (λ p. take p (drop (a * k) bits)) more ∙ take-add k (m * k) (drop (a * k) bits))

whole_many : (n k count : ℕ) → 1 ≤ k → n ≡ count * k → n / k ≡ count
whole_many n k count some e = ap (λ m. m / k) e ∙ mul-div_cancel count some

pub pack-packed_symbols : (bits : List Bool) (k count : ℕ) → 1 ≤ k → length bits ≡ count * k → pack (packed_symbols bits k) k ≡ bits
unfolding packed_symbols
pack-packed_symbols bits k count some e =
    let all : length bits / k * k ≡ length bits = ap (λ m. m * k) (whole_many (length bits) k count some e) ∙ sym e in
    let none : 0 * k ≡ 0 = omega arith in
    packed_from bits k 0 (length bits / k) (omega (arith, all))
    ∙ ap (λ p. take (length bits / k * k) (drop p bits)) none ∙ take_all (length bits / k * k) bits (omega (arith, all))

pub length-packed_symbols : (bits : List Bool) (k count : ℕ) → 1 ≤ k → length bits ≡ count * k → length (packed_symbols bits k) ≡ count
unfolding packed_symbols
length-packed_symbols bits k count some e = length-map-range_with_len (λ e. number (part bits (e * k) k)) 0 (length bits / k) ∙ whole_many (length bits) k count some e

-- each has as many digits
symbols_fit : (bits : List Bool) (k : ℕ) → All (λ y. y < 2 ^ k) (packed_symbols bits k)
unfolding packed_symbols
symbols_fit bits k =
    All-map (λ y. y < 2 ^ k) (λ e. number (part bits (e * k) k)) (range_with_len 0 (length bits / k))
    (λ i d h. let p : ℕ = get_or (range_with_len 0 (length bits / k)) i d * k in number_below (part bits p k) k (omega (arith, length-take k (drop p bits))))

-- ---- whole symbols

pub whole_symbols : (k : ℕ) (items : List ℕ) → 1 ≤ k → k ≤ 64 → length items * k ≤ 18446744073709551552 → IsWhole PACKED_SYMBOLS (length items) k (limbs (pack items k))
whole_symbols k items some few small =
    whole_bits PACKED_SYMBOLS (length items) k (pack items k) refl
    (within_bounds PACKED_SYMBOLS (length items) k refl (omega (arith, some, few, le-mul_of_pos_right (length items) some, small)))
    (length-packed_items items k) refl

pub symbols_shape : (count k : ℕ) (words : List ℕ) → IsWhole PACKED_SYMBOLS count k words
    → (1 ≤ k) × (k ≤ 64) × (count * k ≤ 18446744073709551552) × (length words ≡ limb_count (count * k))
symbols_shape count k words whole =
    let b = bounds_are PACKED_SYMBOLS count k words refl whole in (b.0, b.1, b.4, whole.counted ∙ flat_words PACKED_SYMBOLS count k refl)

pub whole_number : (count k : ℕ) (bits : List Bool) → 1 ≤ k → length bits ≡ count * k → length bits % k ≡ 0
whole_number count k bits some e = ap (λ m. m % k) e ∙ mul-mod_left count k

-- what the symbols that bits hold have
pub loaded_symbols : (count k : ℕ) (bits : List Bool) (items : List ℕ) → 1 ≤ k → length bits ≡ count * k → items ≡ packed_symbols bits k
    → (length items ≡ count) × (limbs (pack items k) ≡ limbs bits) × All (λ y. y < 2 ^ k) items
loaded_symbols count k bits items some long is = rw is (length-packed_symbols bits k count some long, ap limbs (pack-packed_symbols bits k count some long), symbols_fit bits k)

-- and a matrix of them
pub loaded_matrix : (count k : ℕ) (bits : List Bool) (words : List ℕ) (v : Symbols) → 1 ≤ k → length bits ≡ count * k → limbs bits ≡ words → v.width ≡ k → v.items ≡ packed_symbols bits k
    → (length v.items ≡ count) × (v.width ≡ k) × (limbs (pack v.items v.width) ≡ words) × All (λ y. y < 2 ^ v.width) v.items
loaded_matrix count k bits words v some long same wide is =
    let loaded = loaded_symbols count k bits v.items some long is in
    rw wide (loaded.0, refl, loaded.1 ∙ same, loaded.2)

pub if_ok : {E : Type 0} (r : Result Symbols E) (P Q R : Symbols → Type 0) → ((v : Symbols) → P v → Q v → R v) → IfOk r P → IfOk r Q → IfOk r R
if_ok (Ok v) P Q R f p q = f v p q
if_ok (Err e) P Q R f p q = tt

-- numbers in words that end padded
pub whole_part : (count k : ℕ) (words : List ℕ) → 1 ≤ k → k ≤ 32 → count ≤ 4294967295 → length words ≡ limb_count (count * k) → AreWords words → EndsPadded (count * k) words
    → IsWhole PACKED_SYMBOLS count k words
whole_part count k words some narrow few long fit padded = record {
  may = within_bounds PACKED_SYMBOLS count k refl (omega (arith, some, narrow, few, mul-le-mul_right k few));
  counted = long ∙ sym (flat_words PACKED_SYMBOLS count k refl);
  fit = fit;
  padded = one_padded (count * k) words padded;
  ordered = refl;
}

pub ruleset symbols = (symbols_shape, whole_number)
