-- Saved forms of lists of numbers.
use Rattle.vers_saved.proofs.Names.{◌≡◌, ℕ, ◌*◌, ◌≤◌, ◌∙◌, true, false, List, length, refl, sym, ap, limb_count, inl, arith, IsNonDecreasing, Kind, SORTED_LISTS, TABLE_VALUES, BLOCK_VALUES, item_bits, in_order, packed_kind, IsWhole, may_be_saved, each_next-ascending}
use Rattle.vers_saved.proofs.WordBytes.{AreWords}
use Rattle.vers_saved.proofs.Rows.{one_padded}
use Rattle.vers_saved.proofs.Shapes.{bounds_are, flat_words, within_bounds, as_many}

-- numbers of 64 bits, as words of a kind
pub whole_numbers : (kind : Kind) (numbers : List ℕ) → kind.by_levels ≡ false → item_bits kind 64 ≡ 64 → may_be_saved kind (length numbers) 64 ≡ true → AreWords numbers → in_order kind.order numbers ≡ true
    → IsWhole kind (length numbers) 64 numbers
whole_numbers kind numbers flat each may fit ordered =
    let all : length numbers * item_bits kind 64 ≡ length numbers * 64 = ap (λ m. length numbers * m) each in
    let many : length numbers ≡ limb_count (length numbers * item_bits kind 64) = omega (arith, all) in
    record {
      may = may;
      counted = many ∙ sym (flat_words kind (length numbers) 64 flat);
      fit = fit;
      padded = rw flat (one_padded (length numbers * item_bits kind 64) numbers (inl (omega (arith, all))));
      ordered = ordered;
    }

pub whole_listed : (elements : List ℕ) → length elements ≤ 288230376151711743 → AreWords elements → IsNonDecreasing elements → IsWhole (packed_kind SORTED_LISTS) (length elements) 64 elements
whole_listed elements few fit up =
    whole_numbers (packed_kind SORTED_LISTS) elements refl refl (within_bounds (packed_kind SORTED_LISTS) (length elements) 64 refl (omega (arith, few))) fit ((each_next-ascending elements).1 up)

pub whole_table : (items : List ℕ) → length items ≤ 4294967295 → AreWords items → IsWhole TABLE_VALUES (length items) 64 items
whole_table items few fit = whole_numbers TABLE_VALUES items refl refl (within_bounds TABLE_VALUES (length items) 64 refl (omega (arith, few))) fit refl

pub whole_blocks : (items : List ℕ) → length items ≤ 549755813760 → AreWords items → IsWhole BLOCK_VALUES (length items) 64 items
whole_blocks items few fit = whole_numbers BLOCK_VALUES items refl refl (within_bounds BLOCK_VALUES (length items) 64 refl (omega (arith, few))) fit refl

-- how many words there may be, and how wide they are
pub listed_few : (elements : List ℕ) (count width : ℕ) → IsWhole (packed_kind SORTED_LISTS) count width elements → (count ≡ length elements) × (count ≤ 288230376151711743) × (64 ≡ width)
listed_few elements count width whole = let b = bounds_are (packed_kind SORTED_LISTS) count width elements refl whole in (as_many (packed_kind SORTED_LISTS) count width elements refl refl whole, omega (arith, b), omega (arith, b))

pub table_few : (items : List ℕ) (count width : ℕ) → IsWhole TABLE_VALUES count width items → (count ≡ length items) × (count ≤ 4294967295) × (64 ≡ width)
table_few items count width whole = let b = bounds_are TABLE_VALUES count width items refl whole in (as_many TABLE_VALUES count width items refl refl whole, omega (arith, b), omega (arith, b))

pub blocks_few : (items : List ℕ) (count width : ℕ) → IsWhole BLOCK_VALUES count width items → (count ≡ length items) × (count ≤ 549755813760) × (64 ≡ width)
blocks_few items count width whole = let b = bounds_are BLOCK_VALUES count width items refl whole in (as_many BLOCK_VALUES count width items refl refl whole, omega (arith, b), omega (arith, b))

-- words that are loaded ascend
pub listed_up : (elements : List ℕ) (count width : ℕ) → IsWhole (packed_kind SORTED_LISTS) count width elements → IsNonDecreasing elements
listed_up elements count width whole = (each_next-ascending elements).0 whole.ordered

pub ruleset numbers = (whole_table, whole_blocks, table_few, blocks_few)
