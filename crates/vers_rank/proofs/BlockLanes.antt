-- The entries of 16 blocks, looked at by lanes.
use Rattle.vers_rank.proofs.Names.{◌≡◌, ℕ, ◌+◌, ◌-◌, ◌*◌, ◌%◌, ◌<◌, ◌≤◌, Bool, true, cond, List, [], ◌∷◌, length, get_or, take, drop, not, replicate, eqb, leb, refl, sym, ap, ◌∙◌, arith, count_by, zip2, agree_below_at, eqb-true, cases_Bool, get_or-zip2, get_or-replicate, get_or-chunk, length-zip2, count, count_up, IsIndexed, held_before}
use Rattle.std.proofs.lemmas.List.Sums.{sum_by-cons, count_by-le-length}
use Rattle.std.proofs.lemmas.Bool.Decides.{nat_tests}
use Rattle.vers_bits.proofs.PublicLaws.{any_default, passes_first}
use Rattle.vers_rank.proofs.Ranks.{block_entry}

-- ---- lanes of 16 bits
abbrev added : ℕ → ℕ → ℕ
added a b = (a + b) % 65536

abbrev pub minus : ℕ → ℕ → ℕ
minus a b = (a + (65536 - b)) % 65536

abbrev starts : List ℕ
starts = 0 ∷ 512 ∷ 1024 ∷ 1536 ∷ 2048 ∷ 2560 ∷ 3072 ∷ 3584 ∷ 4096 ∷ 4608 ∷ 5120 ∷ 5632 ∷ 6144 ∷ 6656 ∷ 7168 ∷ 7680 ∷ []

start_is : (j : ℕ) → j < 16 → get_or starts j 0 ≡ 512 * j
start_is j h = eqb-true _ _ (agree_below_at (λ j. eqb (get_or starts j 0) (512 * j)) (λ _. true) 16 j refl h)

pub splat_lane : (f : ℕ → ℕ → ℕ) (r : ℕ) (zeros : List ℕ) (j : ℕ) → length zeros ≡ 16 → j < 16 → get_or (zip2 f (replicate 16 r) zeros) j 0 ≡ f r (get_or zeros j 0)
splat_lane f r zeros j long h = rw (get_or-zip2 f (replicate 16 r) zeros j 0 0 0 h (omega (arith, long)), get_or-replicate 16 j r 0 h) refl

pub ones_lane : (r : ℕ) (zeros : List ℕ) (j : ℕ) → length zeros ≡ 16 → j < 16 → get_or (zip2 minus (zip2 added (replicate 16 r) zeros) starts) j 0 ≡ minus (added r (get_or zeros j 0)) (512 * j)
ones_lane r zeros j long h =
    let sums = zip2 added (replicate 16 r) zeros in
    let whole : j < length sums = omega (arith, length-zip2 added (replicate 16 r) zeros (sym long)) in
    rw (get_or-zip2 minus sums starts j 0 0 0 whole h, splat_lane added r zeros j long h, start_is j h) refl

-- ---- elements that pass a test or don't
both_counted : (q : ℕ → Bool) (xs : List ℕ) → count_by q xs + count_by (λ x. not (q x)) xs ≡ length xs
both_counted q [] = omega (arith, count_by-le-length q [], count_by-le-length (λ x. not (q x)) [])
both_counted q (x ∷ xs) =
    grind (arith, cases_Bool (q x), sum_by-cons (λ y. cond (q y) 1 0) x xs, sum_by-cons (λ y. cond (not (q y)) 1 0) x xs, both_counted q xs)

-- ---- the last block that doesn't pass a number
module _ (zeros ds : List ℕ) (b : Bool) (r : ℕ) (long : length ds ≡ 16) (small : r < 8192) (within : (j : ℕ) → j < 16 → get_or zeros j 0 ≤ 512 * j)
    (rising : (i j : ℕ) → i ≤ j → j < 16 → held_before b i (get_or zeros i 0) ≤ held_before b j (get_or zeros j 0))
    (up_to : (j : ℕ) → j < 16 → held_before b j (get_or zeros j 0) ≤ r → get_or ds j 0 ≡ r - held_before b j (get_or zeros j 0))
    (past : (j : ℕ) → j < 16 → r < held_before b j (get_or zeros j 0) → 32768 ≤ get_or ds j 0) where
  abbrev held : ℕ → ℕ
  held j = held_before b j (get_or zeros j 0)

  abbrev n : ℕ
  n = count_by (leb 32768) ds

  -- the differences that are not far come first
  near : (j : ℕ) → j < 16 → (j < 16 - n → held j ≤ r) × (16 - n ≤ j → r < held j)
  near j h =
      let first = passes_first (λ x. not (leb 32768 x)) ds (λ i k d order inside. rw (any_default ds i d 0 (omega arith), any_default ds k d 0 inside) (λ low. grind (arith, nat_tests, past k, up_to i, rising i k))) j (omega arith) in
      grind (arith, nat_tests, both_counted (leb 32768) ds, first, past j, up_to j)

  few_far : n ≤ 15
  few_far = grind (arith, cases_Bool b, within 0 (omega arith), near 0 (omega arith), count_by-le-length (leb 32768) ds)

  pub last_block : (n ≤ 15) × (held (15 - n) + get_or ds (15 - n) 0 ≡ r) × (15 - n + 1 < 16 → r < held (15 - n + 1))
  last_block =
      let low = (near (15 - n) (omega arith)).0 (omega (arith, few_far)) in
      (few_far, omega (arith, up_to (15 - n) (omega arith) low), λ h. (near (15 - n + 1) h).1 (omega (arith, few_far)))

-- ---- the entries of a whole superblock
module _ {l : List Bool} {blocks superblocks zero_samples one_samples : List ℕ} {all : ℕ} (index : IsIndexed l blocks superblocks zero_samples one_samples all) (s : ℕ) (whole : 8192 * s + 8192 ≤ length l) (zeros : List ℕ) (read : zeros ≡ take 16 (drop (16 * s) blocks)) where
  entry_at : (j : ℕ) → j < 16 → get_or zeros j 0 ≡ get_or blocks (16 * s + j) 0
  entry_at j h = ap (λ xs. get_or xs j 0) read ∙ get_or-chunk (16 * s) 16 blocks j 0 h

  pub entry_within : (j : ℕ) → j < 16 → get_or zeros j 0 ≤ 512 * j
  entry_within j h = omega (arith, entry_at j h, block_entry (16 * s + j) s index (omega (arith, whole)) (omega arith))

  pub held_counts : (b : Bool) (j : ℕ) → j < 16 → count b l (8192 * s) + held_before b j (get_or zeros j 0) ≡ count b l (512 * (16 * s + j))
  held_counts b j h = grind (arith, cases_Bool b, entry_at j h, block_entry (16 * s + j) s index (omega (arith, whole)) (omega arith))

  pub held_rising : (b : Bool) (i j : ℕ) → i ≤ j → j < 16 → held_before b i (get_or zeros i 0) ≤ held_before b j (get_or zeros j 0)
  held_rising b i j order h = grind (arith, held_counts, count_up)
