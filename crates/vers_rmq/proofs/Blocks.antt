-- Blocks of 128 items.
use Rattle.vers_rmq.proofs.Names.{mul-le-mul_left, ◌≡◌, ℕ, ◌+◌, ◌-◌, ◌*◌, ◌/◌, ◌%◌, ◌^◌, ◌<◌, ◌≤◌, min, List, [], ◌∷◌, ◌++◌, length, get_or, ap, inl, inr, arith, bit_at, cases_lt, length_push, get_or_push, get_or_append_left, PlacedItem, IsFirstLeast, IsLeastItem, lesser_item, IsLastSet, IsFirstSet, AreMasks, binary_heap_size, IsBlock, AreBlocks, AreAllBlocks, block_end, no_masks, get_or_read}
use Rattle.vers_rmq.specs.declared.rmq.fast_rmq.TheConstants.{MAX_LEN}
use Rattle.vers_rmq.specs.declared.rmq.fast_rmq.block.BlockMasks.{BlockMasks}
use Rattle.vers_bits.specs.Bits.{block_count}
use Rattle.vers_rmq.proofs.Minima.{least_ends, item_at, item_join, item_ends}
use Rattle.vers_rmq.proofs.Masks.{some_from}
use Rattle.vers_rmq.proofs.Logs.{few_levels}

-- ---- how blocks are made
pub block_is : (xs : List ℕ) (b e least value : ℕ) (masks : BlockMasks) → e ≡ block_end (length xs) b → AreMasks xs 128 (128 * b) e masks.whole → AreMasks xs 16 (128 * b) e masks.parts
    → IsFirstLeast xs (128 * b) (e - 1) least → value ≡ get_or xs least 0 → IsBlock xs b (least - 128 * b) value masks
block_is xs b e least value masks ee whole parts best v = grind arith

pub add_block : (xs : List ℕ) (b position least : ℕ) (masks : BlockMasks) (mi pl mi2 pl2 : List ℕ) (ms ms2 : List BlockMasks) → AreBlocks xs b mi pl ms → IsBlock xs b position least masks
    → mi2 ≡ mi ++ least ∷ [] → pl2 ≡ pl ++ position ∷ [] → ms2 ≡ ms ++ masks ∷ [] → AreBlocks xs (b + 1) mi2 pl2 ms2
add_block xs b position least masks mi pl mi2 pl2 ms ms2 h new e1 e2 e3 = rw (e1, e2, e3) (record {
  minima_counted = omega (arith, length_push mi least, h.minima_counted);
  positions_counted = omega (arith, length_push pl position, h.positions_counted);
  masks_counted = omega (arith, length_push ms masks, h.masks_counted);
  block = λ a l. elim (cases_lt a b) [
    | inl old ↦ let kept = h.block a old in grind (arith, get_or_append_left)
    | inr last ↦ grind (arith, get_or_push)
  ];
})

pub no_blocks : (xs mi pl : List ℕ) (ms : List BlockMasks) → mi ≡ [] → pl ≡ [] → ms ≡ [] → AreBlocks xs 0 mi pl ms
no_blocks xs mi pl ms e1 e2 e3 = grind arith

pub all_blocks : (xs mi pl : List ℕ) (ms : List BlockMasks) (b : ℕ) → length xs ≤ MAX_LEN → b ≡ block_count 128 (length xs) → AreBlocks xs b mi pl ms → AreAllBlocks xs mi pl ms
all_blocks xs mi pl ms b few e h = record { bounded = few; blocks = rw (← e) h }

-- ---- the sizes of what is kept
pub sizes : (xs mi pl : List ℕ) (ms : List BlockMasks) → AreAllBlocks xs mi pl ms
    → (binary_heap_size (length mi) ≡ binary_heap_size (block_count 128 (length xs))) × (length pl ≡ block_count 128 (length xs)) × (length ms ≡ block_count 128 (length xs))
    × (binary_heap_size (length mi) ≤ 140 * block_count 128 (length xs)) × (length xs ≤ MAX_LEN)
sizes xs mi pl ms h = grind (arith, mul-le-mul_left, few_levels)

-- ---- what the masks of a block answer
-- the block of a position
pub block_of : (xs mi pl : List ℕ) (ms : List BlockMasks) (b : ℕ) → AreAllBlocks xs mi pl ms → 128 * b < length xs → IsBlock xs b (get_or pl b 0) (get_or mi b 0) (get_or ms b no_masks)
block_of xs mi pl ms b h inside = h.blocks.block b (omega arith)

-- the block of a position is one of those that are kept
pub block_inside : (xs ys mi pl : List ℕ) (ms : List BlockMasks) (j : ℕ) → AreAllBlocks xs mi pl ms → xs ≡ ys → j < length ys → j / 128 < length ms
block_inside xs ys mi pl ms j h e l = omega (arith, h.blocks.masks_counted, ap length e)

-- the masks of the block of position j, as they are read
module _ (xs ys mi pl : List ℕ) (ms : List BlockMasks) (masks : BlockMasks) (j : ℕ) (h : AreAllBlocks xs mi pl ms) (e : xs ≡ ys) (l : j < length ys) (is : masks ≡ get_or ms (j / 128) masks) where
  block_at : IsBlock xs (j / 128) (get_or pl (j / 128) 0) (get_or mi (j / 128) 0) masks
  block_at = rw (get_or_read ms (j / 128) masks (block_inside xs ys mi pl ms j h e l) is no_masks) (block_of xs mi pl ms (j / 128) h (omega (arith, ap length e)))

  pub block_prefix_some : bit_at masks.whole.prefixes 0 ≡ 1
  block_prefix_some = block_at.whole.prefixes.starts 0 (omega (arith, ap length e))

  pub block_suffix_some : 0 < masks.whole.suffixes / 2 ^ (j % 128)
  block_suffix_some =
      some_from _ (j % 128) _ (omega (arith, ap length e)) (block_at.whole.suffixes.ends (j % 128) (omega (arith, ap length e)) (omega (arith, ap length e)))

  pub block_prefix_at : (r : ℕ) → IsLastSet masks.whole.prefixes (j % 128) r → IsFirstLeast ys (128 * (j / 128)) j (128 * (j / 128) + r)
  block_prefix_at r found =
      let m = block_at.whole.prefixes.positions (j % 128) r (omega (arith, ap length e)) found in
      grind (arith, least_ends)

  pub block_suffix_at : (r : ℕ) → IsFirstSet masks.whole.suffixes (j % 128) r
      → IsFirstLeast ys j (min (128 * (j / 128) + 128) (length ys) - 1) (128 * (j / 128) + r)
  block_suffix_at r found =
      let m = block_at.whole.suffixes.positions (j % 128) r (omega (arith, ap length e)) (omega (arith, ap length e)) found in
      grind (arith, least_ends)

  pub part_prefix_some : bit_at masks.parts.prefixes 0 ≡ 1
  part_prefix_some = block_at.parts.prefixes.starts 0 (omega (arith, ap length e))

  pub part_suffix_some : 0 < masks.parts.suffixes / 2 ^ (j % 128)
  part_suffix_some =
      some_from _ (j % 128) _ (omega (arith, ap length e)) (block_at.parts.suffixes.ends (j % 128) (omega (arith, ap length e)) (omega (arith, ap length e)))

  pub part_prefix_at : (r : ℕ) → IsLastSet masks.parts.prefixes (j % 128) r → IsFirstLeast ys (16 * (j / 16)) j (128 * (j / 128) + r)
  part_prefix_at r found =
      let m = block_at.parts.prefixes.positions (j % 128) r (omega (arith, ap length e)) found in
      grind (arith, least_ends)

  pub part_suffix_at : (r : ℕ) → IsFirstSet masks.parts.suffixes (j % 128) r
      → IsFirstLeast ys j (min (16 * (j / 16) + 16) (length ys) - 1) (128 * (j / 128) + r)
  part_suffix_at r found =
      let m = block_at.parts.suffixes.positions (j % 128) r (omega (arith, ap length e)) (omega (arith, ap length e)) found in
      grind (arith, least_ends)

-- ---- ranges over blocks
-- the least of whole blocks, from the least of their least items
pub between : (xs ys mi pl : List ℕ) (ms : List BlockMasks) (a c : ℕ) (q r : PlacedItem) → AreAllBlocks xs mi pl ms → xs ≡ ys → 128 * c + 128 ≤ length ys
    → IsLeastItem mi a c q → r.position ≡ 128 * q.position + get_or pl q.position 0 → r.value ≡ q.value → IsLeastItem ys (128 * a) (128 * c + 127) r
between xs ys mi pl ms a c q r h e inside found position value =
    let room : 128 * c + 128 ≤ length xs = omega (arith, ap length e) in
    let at_block : (b : ℕ) → b ≤ c → IsBlock xs b (get_or pl b 0) (get_or mi b 0) (get_or ms b no_masks) = λ b l. block_of xs mi pl ms b h (omega arith) in
    let least = found.position in
    let here = at_block q.position least.to in
    let best : IsFirstLeast xs (128 * a) (128 * c + 127) (128 * q.position + get_or pl q.position 0) = record {
      from = omega (arith, least.from, here.best.from);
      to = omega (arith, least.to, here.best.to);
      least = λ p f g. let b = at_block (p / 128) (omega arith) in
          omega (arith, here.value, b.value, least.least (p / 128) (omega arith) (omega arith), b.best.least p (omega arith) (omega arith));
      leftmost = λ p f g. elim (cases_lt (p / 128) q.position) [
        | inl before ↦ let b = at_block (p / 128) (omega (arith, least.to)) in
            omega (arith, here.value, b.value, least.leftmost (p / 128) (omega arith) before, b.best.least p (omega arith) (omega (arith, least.to)))
        | inr same ↦ here.best.leftmost p (omega (arith, here.best.to)) g
      ];
    } in
    grind (arith, item_at)

-- the end of a block and the start of the next
pub two_parts : (xs ys : List ℕ) (i j m n : ℕ) (a b r : PlacedItem) → xs ≡ ys → i / 128 + 1 ≡ j / 128 → j < length ys
    → IsFirstLeast ys i (min (128 * (i / 128) + 128) (length ys) - 1) m → IsFirstLeast ys (128 * (j / 128)) j n
    → a.position ≡ m → a.value ≡ get_or xs m 0 → b.position ≡ n → b.value ≡ get_or xs n 0 → r ≡ lesser_item a b → IsLeastItem ys i j r
two_parts xs ys i j m n a b r e next inside left right pa va pb vb v = grind (arith, item_join, item_at)

-- the end of a block before what follows it
pub end_before : (xs ys : List ℕ) (i m e : ℕ) (a b r : PlacedItem) → xs ≡ ys → 128 * (i / 128) + 128 ≤ length ys
    → IsFirstLeast ys i (min (128 * (i / 128) + 128) (length ys) - 1) m → a.position ≡ m → a.value ≡ get_or xs m 0 → r ≡ lesser_item a b
    → IsLeastItem ys (128 * (i / 128) + 128) e b → IsLeastItem ys i e r
end_before xs ys i m e a b r same inside left pa va v after = grind (arith, item_join, item_at)

-- ---- ranges over parts of a block
-- a whole part more
pub part_more : (xs ys : List ℕ) (i q j m : ℕ) (a b r : PlacedItem) → xs ≡ ys → i < 16 * q → j ≡ 16 * q + 15 → IsLeastItem ys i (16 * q - 1) a → IsFirstLeast ys (16 * (j / 16)) j m → b.position ≡ m → b.value ≡ get_or xs m 0
    → r ≡ lesser_item a b → IsLeastItem ys i (16 * (q + 1) - 1) r
part_more xs ys i q j m a b r e before ej left right pb vb v = grind (arith, item_ends, item_join, item_at)

-- the start of the part of the last position
pub part_end_with : (xs ys : List ℕ) (i q j m : ℕ) (a b r : PlacedItem) → xs ≡ ys → i < 16 * q → q ≡ j / 16 → IsLeastItem ys i (16 * q - 1) a → IsFirstLeast ys (16 * (j / 16)) j m → b.position ≡ m → b.value ≡ get_or xs m 0
    → r ≡ lesser_item a b → IsLeastItem ys i j r
part_end_with xs ys i q j m a b r e before eq left right pb vb v = grind (arith, item_join, item_at)

pub ruleset mask_positions = (block_inside, block_suffix_some, part_suffix_some, block_prefix_at, block_suffix_at, part_prefix_at, part_suffix_at)
