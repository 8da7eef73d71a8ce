-- Walks by chunks of bits.
use Rattle.vers_rank.proofs.Names.{zero, suc, ◌≡◌, ℕ, ◌+◌, ◌-◌, ◌/◌, ◌%◌, ◌^◌, ◌<◌, ◌≤◌, Bool, true, false, List, [], ◌∷◌, ◌++◌, map, filter, eqb, replicate, Some, None, length, get_or, refl, sym, ap, ◌∙◌, arith, inl, inr, bit_and, bit_at, range_with_len, cases_Bool, drop_more, drop_all, and_mask, bit_value, is_bit, count, limb, positions, count_past, count_none, count_le_all, length-positions, select_at, count_more_yes, count_more_no, Reads, AddsAtMost, adds_then, last_first, ones_below, chunk_positions_left, marked, IsChunkWalkOf, select, chunk_reads, positions_from}
use Rattle.vers_bits.specs.Walk.{TakesFirst}
use Rattle.vers_rank.specs.declared.fast_rs_vec.bit_set_iter.ChunkWalk.{ChunkWalk}
use Rattle.vers_rank.proofs.OffsetLanes.{last_first_from, offset_below}
use Rattle.vers_rank.proofs.Pairs.{digit_after, low_digit}
use Rattle.vers_rank.proofs.Marks.{marked_bit}

-- ---- the positions that are left
pub positions_from_start : (b : Bool) (bits : List Bool) → positions_from b bits 0 ≡ positions b bits
unfolding positions_from
positions_from_start b bits = rw count_none refl

pub positions_from_yes : (b : Bool) (bits : List Bool) (p : ℕ) → p < length bits → is_bit b (get_or bits p false) ≡ true → positions_from b bits p ≡ p ∷ positions_from b bits (p + 1)
unfolding positions_from select
positions_from_yes b bits p h on =
    let more : count b bits (p + 1) ≡ count b bits p + 1 = count_more_yes b bits p h on in
    let some : count b bits p < length (positions b bits) = omega (arith, length-positions b bits, count_le_all b bits (p + 1)) in
    rw (more, drop_more (positions b bits) (count b bits p) (length bits) some, select_at b bits (count b bits p) p h on refl) refl

pub positions_from_no : (b : Bool) (bits : List Bool) (p : ℕ) → p < length bits → is_bit b (get_or bits p false) ≡ false → positions_from b bits p ≡ positions_from b bits (p + 1)
unfolding positions_from
positions_from_no b bits p h off = rw (count_more_no b bits p h off) refl

pub positions_from_past : (b : Bool) (bits : List Bool) (p : ℕ) → length bits ≤ p → positions_from b bits p ≡ []
unfolding positions_from
positions_from_past b bits p h = drop_all (count b bits p) (positions b bits) (omega (arith, length-positions b bits, count_past b bits p h))

-- the positions that have the bit among those from a on, n of them, and those after them
positions_and : (b : Bool) (bits : List Bool) (start w a n : ℕ) → start + a + n ≤ length bits → ((i : ℕ) → a ≤ i → i < a + n → bit_at w i ≡ bit_value (is_bit b (get_or bits (start + i) false)))
    → positions_from b bits (start + a) ≡ map (λ i. start + i) (filter (λ i. eqb (bit_at w i) 1) (range_with_len a n)) ++ positions_from b bits (start + a + n)
positions_and b bits start w a zero within holds = ap (positions_from b bits) (let e : start + a ≡ start + a + 0 = omega arith in e)
positions_and b bits start w a (suc n) within holds =
    let next : start + a + 1 ≡ start + (a + 1) = omega arith in
    let end : start + (a + 1) + n ≡ start + a + suc n = omega arith in
    let rest = rw end at (positions_and b bits start w (a + 1) n (omega arith) (λ i low high. holds i (omega arith) (omega arith))) in
    let here = holds a (omega arith) (omega arith) in
    elim (cases_Bool (is_bit b (get_or bits (start + a) false))) [
      | inl on ↦ rw (here, on, positions_from_yes b bits (start + a) (omega arith) on, next, rest) refl
      | inr off ↦ rw (here, off, positions_from_no b bits (start + a) (omega arith) off, next, rest) refl
    ]

-- ---- steps
module _ (bits : List Bool) (walk : ChunkWalk) (is : IsChunkWalkOf bits walk) where
  module _ (some : 0 < walk.left) where
    abbrev next : ChunkWalk
    next = record walk { left = walk.left - 1 }

    pub offset_inside : walk.start + get_or walk.offsets (walk.left - 1) 0 < length bits
    offset_inside = is.inside (walk.left - 1) (omega (arith, some))

    pub offset_passed : IsChunkWalkOf bits next
    offset_passed = grind (arith, is)

    pub offset_gave : (old : List ℕ) → chunk_positions_left bits walk ≡ old → TakesFirst old (Some (walk.start + get_or walk.offsets (walk.left - 1) 0)) (chunk_positions_left bits next)
    offset_gave old rest =
        let e : walk.left ≡ suc (walk.left - 1) = omega (arith, some) in
        rw (sym rest ∙ ap (λ n. last_first walk.start walk.offsets n ++ positions_from walk.bit bits walk.end) e) (record { given = refl; left = refl })

  -- where no offset is left
  at_end : walk.left ≡ 0 → chunk_positions_left bits walk ≡ positions_from walk.bit bits walk.end
  at_end empty = ap (λ n. last_first walk.start walk.offsets n ++ positions_from walk.bit bits walk.end) empty

  pub chunk_ended : (old : List ℕ) → walk.left ≡ 0 → length bits ≤ walk.end → chunk_positions_left bits walk ≡ old → TakesFirst old None (chunk_positions_left bits walk)
  chunk_ended old empty past left =
      let none : chunk_positions_left bits walk ≡ [] = at_end empty ∙ positions_from_past walk.bit bits walk.end past in
      rw (← left, none) (record { given = refl; left = refl })

-- ---- a chunk anew
-- a digit of the limb of position p, without the digits before that position
pub word_bit : (b : Bool) (bits : List Bool) (p i w : ℕ) → w ≡ marked b (limb bits (p / 64)) → p % 64 + i < 64 → bit_at (w / 2 ^ (p % 64)) i ≡ bit_value (is_bit b (get_or bits (p + i) false))
word_bit b bits p i w word small = grind (arith, digit_after, marked_bit)

module _ (bits : List Bool) (walk : ChunkWalk) (n count : ℕ) (buffer : List ℕ) (w : ℕ) (is : IsChunkWalkOf bits walk) (done : walk.left ≡ 0) (within : walk.end + n ≤ length bits) (room : length buffer ≡ 16) (few : count ≤ 16) (listed : last_first 0 buffer count ≡ ones_below n w) (holds : (i : ℕ) → i < n → bit_at w i ≡ bit_value (is_bit walk.bit (get_or bits (walk.end + i) false))) (whole : walk.end + n < length bits → (walk.end + n) % 16 ≡ 0) where
  abbrev loaded : ChunkWalk
  loaded = record walk { start = walk.end; end = walk.end + n; left = count; offsets = buffer }

  pub chunk_loaded : (IsChunkWalkOf bits loaded) × (chunk_positions_left bits loaded ≡ chunk_positions_left bits walk)
  chunk_loaded =
      let here : walk.end + 0 ≡ walk.end = omega arith in
      let all = positions_and walk.bit bits walk.end w 0 n (omega arith) (λ i low high. holds i (omega arith)) in
      (grind (arith, offset_below buffer count n w listed), rw (last_first_from walk.end buffer count, listed, at_end bits walk is done) (sym (rw here at all)))

-- 16 bits from position p on
pub chunk_bits : (b : Bool) (bits : List Bool) (p w : ℕ) → w ≡ marked b (limb bits (p / 64)) → p % 16 ≡ 0 → (i : ℕ) → i < 16 → bit_at (bit_and (w / 2 ^ (p % 64)) 65535) i ≡ bit_value (is_bit b (get_or bits (p + i) false))
chunk_bits b bits p w word aligned i small =
    rw (and_mask (w / 2 ^ (p % 64)) 16, low_digit 16 (w / 2 ^ (p % 64)) i small) (word_bit b bits p i w word (omega arith))

-- ---- the ends
-- loads, one after another
pub chunk_reads_then : (a b c : Reads) (m n k : ℕ) → AddsAtMost a b (chunk_reads (m - n)) → AddsAtMost b c (chunk_reads (n - k)) → n ≤ m → k ≤ n → AddsAtMost a c (chunk_reads (m - k))
chunk_reads_then a b c m n k s t up down = adds_then s t (grind arith)

pub no_chunk : (bits : List Bool) (b : Bool) → IsChunkWalkOf bits (record { bit = b; start = 0; end = 0; left = 0; offsets = replicate 16 0 })
no_chunk bits b = grind arith

pub ruleset makers = (positions_from_start, no_chunk)
