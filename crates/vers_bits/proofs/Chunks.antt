-- Sums over the chunks of a list, and lists whose chunks are the same.
use Rattle.vers_bits.proofs.Names.{◌≡◌, ℕ, zero, suc, map, ◌+◌, ◌*◌, ◌/◌, get_or_read, ◌<◌, ◌≤◌, Bool, true, false, List, [], take, drop, length, get_or, eqb, refl, sym, ap, ◌∙◌, arith, Fits, w64, sum_by, count_ones, range_with_len, first_chunks, drop-drop, take-append-drop, sum_by-map-range_with_len_more, sum_by-cons, sum_by-take-drop, sum_by-le, ones-le, get_or-take, get_or-drop, count, limb, limb_count, pointwise, bytes_eq-Decides, limbs}
use Rattle.std.proofs.lemmas.List.Elements.{All-from_get_or}
use Rattle.vers_bits.proofs.Count.{count_limb_whole, count_none, count_past}
use Rattle.vers_bits.proofs.Equal.{get_or-limbs, length-limbs}

-- what the chunks hold, and what is after them, is the whole
pub chunks-sum : (f : ℕ → ℕ) (n k : ℕ) (xs : List ℕ) → sum_by (sum_by f) (first_chunks n k xs) + sum_by f (drop (k * n) xs) ≡ sum_by f xs
chunks-sum f n zero xs = grind arith
chunks-sum f n (suc k) xs =
    let more : n + k * n ≡ suc k * n = omega arith in
    let rest = ap (sum_by f) (drop-drop (k * n) n xs) in
    rw (← more) (omega (arith, rest, chunks-sum f n k (drop n xs), sum_by-take-drop f xs n, sum_by-cons (sum_by f) (take n xs) (first_chunks n k (drop n xs))))

-- words of 64 bits have no more than 64 ones each
pub ones-bound : (xs : List ℕ) → ((k : ℕ) → Fits w64 (get_or xs k 0)) → sum_by count_ones xs ≤ length xs * 64
ones-bound xs fits = sum_by-le count_ones 64 xs (All-from_get_or (λ x. count_ones x ≤ 64) xs 0 (λ i _. ones-le 64 _ (fits i).fits))

-- lists with the same chunks and the same rest are the same
pub same_chunks : (n k : ℕ) (xs ys : List ℕ) → first_chunks n k xs ≡ first_chunks n k ys → drop (k * n) xs ≡ drop (k * n) ys → xs ≡ ys
same_chunks n zero xs ys h rest = grind arith
same_chunks n (suc k) xs ys h rest =
    let more : n + k * n ≡ suc k * n = omega arith in
    let behind : drop (k * n) (drop n xs) ≡ drop (k * n) (drop n ys) = rw (drop-drop (k * n) n xs, drop-drop (k * n) n ys, more) rest in
    let first : take n xs ≡ take n ys = ap (λ cs. get_or cs 0 []) h in
    let others : drop n xs ≡ drop n ys = same_chunks n k (drop n xs) (drop n ys) (ap (drop 1) h) behind in
    rw (← take-append-drop n xs, ← take-append-drop n ys, first, others) refl

ones_before : (l : List Bool) (n : ℕ) → sum_by count_ones (map (limb l) (range_with_len 0 n)) ≡ count true l (64 * n)
ones_before l zero = sym (count_none true l)
ones_before l (suc n) =
    let more : suc n ≡ n + 1 = omega arith in
    let next : 64 * suc n ≡ 64 * n + 64 = omega arith in
    omega (arith, ap (λ m. sum_by count_ones (map (limb l) (range_with_len 0 m))) more, ap (count true l) next, sum_by-map-range_with_len_more count_ones (limb l) 0 n n (omega arith), ones_before l n, count_limb_whole l n)

-- the ones of all limbs
pub ones_of_limbs : (l : List Bool) → sum_by count_ones (limbs l) ≡ count true l (length l)
unfolding limbs
ones_of_limbs l = ones_before l (limb_count (length l)) ∙ count_past true l (64 * limb_count (length l)) (omega arith)

-- the test of two lists
pub tests_same : (xs ys : List ℕ) → xs ≡ ys → true ≡ pointwise eqb xs ys
tests_same xs ys e = sym ((bytes_eq-Decides xs ys).1 e)

pub tests_other : (xs ys : List ℕ) → (xs ≡ ys → ⊥) → false ≡ pointwise eqb xs ys
tests_other xs ys h = grind (arith, bytes_eq-Decides xs ys)

-- one of the chunks
pub chunk_at : (n k : ℕ) (xs : List ℕ) (i : ℕ) → i < k → get_or (first_chunks n k xs) i [] ≡ take n (drop (i * n) xs)
chunk_at n zero xs i h = absurd (omega arith)
chunk_at n (suc k) xs zero h = let none : 0 * n ≡ 0 = omega arith in rw none refl
chunk_at n (suc k) xs (suc i) h =
    let more : n + i * n ≡ suc i * n = omega arith in
    rw (← more, ← drop-drop (i * n) n xs) (chunk_at n k (drop n xs) i (omega arith))

-- an item of one of the chunks
pub chunk_item : (n k : ℕ) (xs : List ℕ) (i j : ℕ) → i < k → j < n → get_or (get_or (first_chunks n k xs) i []) j 0 ≡ get_or xs (n * i + j) 0
chunk_item n k xs i j h small =
    let position : i * n + j ≡ n * i + j = omega arith in
    rw (chunk_at n k xs i h, get_or-take n (drop (i * n) xs) j 0 small, get_or-drop (i * n) xs j 0, position) refl

pub ruleset sums = (ones-bound)

-- a limb of one of the blocks of 8
limb_of_block : (l : List Bool) (ws : List ℕ) (n k j : ℕ) → ws ≡ limbs l → 8 * n ≤ length ws → k < n → j < 8 → get_or (get_or (first_chunks 8 n ws) k []) j 0 ≡ limb l (8 * k + j)
limb_of_block l ws n k j same short within small =
    chunk_item 8 n ws k j within small ∙ ap (λ xs. get_or xs (8 * k + j) 0) same ∙ get_or-limbs l (8 * k + j) (omega (arith, ap length same, length-limbs l))

-- the block that is read at k
pub limb_of_read : (l : List Bool) (ws : List ℕ) (blocks : List (List ℕ)) (block : List ℕ) (k j : ℕ) → ws ≡ limbs l → blocks ≡ first_chunks 8 (length ws / 8) ws → length blocks ≡ length ws / 8 → k < length blocks → block ≡ get_or blocks k block → j < 8
    → get_or block j 0 ≡ limb l (8 * k + j)
limb_of_read l ws blocks block k j same all counted within read small =
    ap (λ b. get_or b j 0) (get_or_read blocks k block within read [] ∙ ap (λ bs. get_or bs k []) all)
    ∙ limb_of_block l ws (length ws / 8) k j same (omega arith) (omega (arith, counted)) small

pub ruleset blocks = (limb_of_read, length-limbs)

pub ruleset all_limbs = (ones_of_limbs, length-limbs)

pub ruleset equality = (tests_same, tests_other)
