-- The elements of a packed list.
use Rattle.vers_bits.proofs.Names.{◌≡◌, ℕ, zero, suc, ◌+◌, ◌*◌, ◌%◌, ◌^◌, ◌<◌, ◌≤◌, List, [], ◌∷◌, length, take, drop, get_or, Some, arith, take_at, drop_at, drop-drop, row_fits, low_bits, pack, part_number}
use Rattle.vers_bits.proofs.LowBits.{length-low_bits, number-low_bits}
use Rattle.vers_bits.proofs.Growing.{length-packed}
use Rattle.vers_bits.proofs.Counting.{part_number_some}

-- the bits of element e
pub element_in_pack : (items : List ℕ) (k e : ℕ) → e < length items → take k (drop (e * k) (pack items k)) ≡ low_bits (get_or items e 0) k
element_in_pack [] k e h = absurd (omega arith)
element_in_pack (v ∷ items) k zero h = grind (arith, take_at, length-low_bits)
element_in_pack (v ∷ items) k (suc e) h =
    let position : suc e * k ≡ k + e * k = omega arith in
    rw (position, ← drop-drop (e * k) k, drop_at (low_bits v k) (pack items k) k (length-low_bits v k)) (element_in_pack items k e (omega arith))

pub packed_element : (items : List ℕ) (k e : ℕ) → 1 ≤ k → k ≤ 64 → e < length items → part_number (pack items k) (e * k) k ≡ Some (get_or items e 0 % 2 ^ k)
packed_element items k e some few h =
    let fits : e * k + k ≤ length (pack items k) = grind (arith, length-packed (λ v. v) k items, row_fits) in
    grind (arith, part_number_some, element_in_pack, number-low_bits)
