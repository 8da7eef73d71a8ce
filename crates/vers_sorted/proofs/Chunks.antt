-- Lists of bits by chunks of one length, and low parts by those of the elements.
use Rattle.vers_sorted.proofs.Names.{◌≡◌, ℕ, ◌+◌, ◌*◌, ◌/◌, ◌%◌, ◌<◌, ◌≤◌, Bool, List, length, take, drop, get_or, sym, ap, ◌∙◌, inl, inr, arith, cases_lt, mod_below, mul-le-mul_left, mul_comm, same_lists, get_or-take, get_or-drop, number, low_bits, low_parts, low_width, HoldLow, IsPacked}
use Rattle.std.proofs.Math.Nat.{div-add-mod, div-lt_iff_lt-mul}
use Rattle.vers_bits.proofs.PublicLaws.{low_bits_of_part}
use Rattle.vers_sorted.proofs.Holds.{hold_low}

chunk_bit : (w : ℕ) (l : List Bool) (p r : ℕ) (d : Bool) → r < w → get_or (take w (drop p l)) r d ≡ get_or l (p + r) d
chunk_bit w l p r d h = get_or-take w (drop p l) r d h ∙ get_or-drop p l r d

pub chunk_within : (w n i : ℕ) → i < n → w * i + w ≤ w * n
chunk_within w n i h = omega (arith, mul-le-mul_left {m = i + 1} {n = n} w (omega arith))

-- n chunks of w bits each determine the bits
pub same_chunks : (w n : ℕ) (xs ys : List Bool) → length xs ≡ w * n → length ys ≡ w * n → ((i : ℕ) → i < n → take w (drop (w * i) xs) ≡ take w (drop (w * i) ys)) → xs ≡ ys
same_chunks w n xs ys long_x long_y same =
    same_lists xs ys (long_x ∙ sym long_y) (λ j d h. elim (cases_lt 0 w) [
      | inl some ↦
          let at : w * (j / w) + j % w ≡ j = div-add-mod j w in
          let few : j / w < n = (div-lt_iff_lt-mul {k = w} {x = j} {y = n} some).1 (omega (arith, mul_comm n w)) in
          ap (λ p. get_or xs p d) (sym at) ∙ sym (chunk_bit w xs (w * (j / w)) (j % w) d (mod_below j w some))
          ∙ ap (λ l. get_or l (j % w) d) (same (j / w) few)
          ∙ chunk_bit w ys (w * (j / w)) (j % w) d (mod_below j w some) ∙ ap (λ p. get_or ys p d) at
      | inr none ↦ let zero : w ≡ 0 = omega arith in absurd (omega (arith, ap (λ m. m * n) zero))
    ])

-- a chunk has the low bits of its number
chunk_is : (l : List Bool) (w n i : ℕ) → length l ≡ w * n → i < n → take w (drop (w * i) l) ≡ low_bits (number (take w (drop (w * i) l))) w
chunk_is l w n i long h = sym (low_bits_of_part l (w * i) w (omega (arith, chunk_within w n i h)))

-- bits that have the low parts of a list are its low parts
pub low_held : (s : List ℕ) (low : List Bool) → HoldLow s low → low ≡ low_parts s
low_held s low held =
    let own : HoldLow s (low_parts s) = hold_low s in
    same_chunks (low_width s) (length s) low (low_parts s) held.counted own.counted (λ i h.
    chunk_is low (low_width s) (length s) i held.counted h
    ∙ ap (λ v. low_bits v (low_width s)) (held.part i h ∙ sym (own.part i h))
    ∙ sym (chunk_is (low_parts s) (low_width s) (length s) i own.counted h))

pub low_same : {s : List ℕ} {high low : List Bool} {first last width : ℕ} → IsPacked s high low first last width → low ≡ low_parts s
low_same {s} {low} packed = low_held s low packed.low_parts
