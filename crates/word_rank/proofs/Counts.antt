-- What the stored counts state about ranks, and how they grow.
use Rattle.word_rank.proofs.Names.{◌≡◌, ℕ, ◌+◌, ◌-◌, ◌*◌, ◌/◌, ◌%◌, ◌^◌, ◌<◌, ◌≤◌, ◌++◌, ◌∷◌, [], Bool, true, false, List, length, get_or, refl, sym, ap, ◌∙◌, arith, eqb, count_ones, bit_and, and_mask, one_shl, shr_and_one, cases_Bool, length_push, get_or_append_left, get_or_push, count, limb, limb_count, count_le, count_up, count_near, count_limb, count_limb_whole, count_past, count_none, limb_bit, AreCounts, HasCounts, word_rank_size}

-- the counts of a word and its superblock
pub counts_add : {bits : List Bool} {words superblocks : List ℕ} (k : ℕ) → HasCounts bits words superblocks → 64 * k < length bits
    → (get_or superblocks (k / 512) 0 + get_or words k 0 ≡ count true bits (64 * k)) × (count true bits (64 * k) ≤ length bits)
counts_add {bits} {words} {superblocks} k has within =
    let word = has.counts.word_at k (omega arith) in
    let superblock = has.counts.superblock_at (k / 512) (omega (arith, has.counts.superblocks_counted)) in
    (omega (arith, word, superblock), (count_le true bits (64 * k)).1)

-- the low bits of a word
pub word_part : (w i : ℕ) → count_ones (bit_and w (1 * 2 ^ (i % 64) % 18446744073709551616 - 1)) ≡ count_ones (w % 2 ^ (i % 64))
word_part w i = rw (one_shl (i % 64) 64 (omega arith), and_mask) refl

-- the ones before a position, by its word
pub limb_part : (l : List Bool) (i : ℕ) → count true l (64 * (i / 64)) + count_ones (limb l (i / 64) % 2 ^ (i % 64)) ≡ count true l i
limb_part l i =
    let position : 64 * (i / 64) + i % 64 ≡ i = omega arith in
    rw (← count_limb l (i / 64) (i % 64) (omega arith), position) refl

-- a word whole
pub limb_whole : (l : List Bool) (k : ℕ) → count true l (64 * (k + 1)) ≡ count true l (64 * k) + count_ones (limb l k)
limb_whole l k = let e : 64 * (k + 1) ≡ 64 * k + 64 = omega arith in ap (count true l) e ∙ count_limb_whole l k

-- a bit of a word
pub bit_of_limb : (l : List Bool) (i : ℕ) → eqb (bit_and (limb l (i / 64) / 2 ^ (i % 64)) 1) 1 ≡ get_or l i false
bit_of_limb l i =
    let position : 64 * (i / 64) + i % 64 ≡ i = omega arith in
    let bit = rw position at (limb_bit l (i / 64) (i % 64) (omega arith)) in
    rw (shr_and_one, bit) (grind (arith, cases_Bool (get_or l i false)))

-- the ones of a superblock before a word
pub near_word : (l : List Bool) (n : ℕ) → (count true l (32768 * (n / 512)) ≤ count true l (64 * n)) × (count true l (64 * n) ≤ count true l (32768 * (n / 512)) + 32704)
near_word l n =
    (count_up true l (32768 * (n / 512)) (64 * n) (omega arith), omega (arith, count_near true l (32768 * (n / 512)) (64 * n) (omega arith)))

-- a word that is not the first of its superblock
pub add_word : (l : List Bool) (n y : ℕ) (words more superblocks : List ℕ) → AreCounts l n words superblocks → 0 < n % 512
    → y + count true l (32768 * (n / 512)) ≡ count true l (64 * n) → more ≡ words ++ y ∷ [] → AreCounts l (n + 1) more superblocks
add_word l n y words more superblocks counts later value e = grind (arith, length_push, get_or_append_left, get_or_push)

-- the bytes of all parts
module _ {bits : List Bool} {words superblocks : List ℕ} (has : HasCounts bits words superblocks) where
  pub size_is : 8 * limb_count (length bits) + 2 * length words + 8 * length superblocks ≡ word_rank_size (length bits)
  size_is = omega (arith, has.counts.words_counted, has.counts.superblocks_counted)

  pub size_fits : 8 * limb_count (length bits) + 2 * length words + 8 * length superblocks < 18446744073709551616
  size_fits = omega (arith, size_is, has.bounded)

pub ruleset entries = (counts_add)

pub ruleset words = (limb_whole, word_part)

pub ruleset ranks = (limb_part, bit_of_limb, count_past, count_le)
