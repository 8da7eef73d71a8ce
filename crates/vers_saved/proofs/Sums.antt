-- The sum of words.
use Rattle.vers_saved.proofs.Names.{◌≡◌, ℕ, ◌+◌, ◌*◌, ◌/◌, ◌%◌, ◌^◌, ◌<◌, ◌≤◌, drop, List, [], ◌∷◌, ◌++◌, length, get_or, take, refl, sym, ap, ◌∙◌, arith, fold, map, bit_xor, mod_below, pow_pos, fold-append, append_assoc, append-nil, take_more, take_all, take-add, START, MAGIC, FACTOR, first_chunks, mix, check_sum, words_of, bytes_word, word_bytes, bytes_of, head, saved, with_sum, or_lt, shr_le, flat_map-append, take-map, drop-map, flat_map_more}
use Rattle.std.proofs.lemmas.List.Sums.{fold_more}

pub check_sum-none : check_sum [] ≡ START
unfolding check_sum
check_sum-none = refl

-- the sum of one more word
pub check_sum-more : (words : List ℕ) (i : ℕ) → i < length words → check_sum (take (i + 1) words) ≡ mix (check_sum (take i words)) (get_or words i 0)
unfolding check_sum
check_sum-more words i h = fold_more mix START words i 0 h

pub ruleset sums = (check_sum-none, check_sum-more)

-- the head, word by word
pub check_sum-head : (version kind count width : ℕ) → mix (mix (mix (mix (mix START MAGIC) version) kind) width) count ≡ check_sum (head version kind count width)
unfolding check_sum
check_sum-head version kind count width = refl

pub bytes_of-head : (out : List ℕ) (version kind count width : ℕ)
    → (((((out ++ word_bytes MAGIC) ++ word_bytes version) ++ word_bytes kind) ++ word_bytes width) ++ word_bytes count) ≡ out ++ bytes_of (head version kind count width)
bytes_of-head out version kind count width = simp (append_assoc, append-nil)

pub ruleset heads = (check_sum-head, bytes_of-head)

-- a part of the chunks of bytes, as words
pub words_of-part : (bytes : List ℕ) (n m : ℕ) → map bytes_word (take n (drop m (first_chunks 8 (length bytes / 8) bytes))) ≡ take n (drop m (words_of bytes))
unfolding words_of
words_of-part bytes n m =
    sym (take-map bytes_word n (drop m (first_chunks 8 (length bytes / 8) bytes)))
    ∙ ap (take n) (sym (drop-map bytes_word m (first_chunks 8 (length bytes / 8) bytes)))

-- words one after another, and their bytes
pub bytes_of-take_more : (out ws : List ℕ) (k : ℕ) → k < length ws → (out ++ bytes_of (take k ws)) ++ word_bytes (get_or ws k 0) ≡ out ++ bytes_of (take (k + 1) ws)
bytes_of-take_more out ws k h = flat_map_more word_bytes out (take k ws) (get_or ws k 0) ∙ ap (λ l. out ++ bytes_of l) (sym (take_more ws k 0 h))

pub fold-take_more : (sum : ℕ) (ws : List ℕ) (k : ℕ) → k < length ws → mix (fold mix sum (take k ws)) (get_or ws k 0) ≡ fold mix sum (take (k + 1) ws)
fold-take_more sum ws k h = sym (fold_more mix sum ws k 0 h)

pub bytes_of-take_all : (out ws : List ℕ) (k : ℕ) → length ws ≤ k → out ++ bytes_of (take k ws) ≡ out ++ bytes_of ws
bytes_of-take_all out ws k h = ap (λ l. out ++ bytes_of l) (take_all k ws h)

pub fold-take_all : (sum : ℕ) (ws : List ℕ) (k : ℕ) → length ws ≤ k → fold mix sum (take k ws) ≡ fold mix sum ws
fold-take_all sum ws k h = ap (fold mix sum) (take_all k ws h)

pub ruleset words = (bytes_of-take_more, fold-take_more, bytes_of-take_all, fold-take_all)

pub bytes_of-append : (us ws : List ℕ) → bytes_of (us ++ ws) ≡ bytes_of us ++ bytes_of ws
bytes_of-append us ws = flat_map-append word_bytes us ws

-- n words more
more : (front ls : List ℕ) (k n : ℕ) → (front ++ take k ls) ++ take n (drop k ls) ≡ front ++ take (k + n) ls
more front ls k n = append_assoc front (take k ls) (take n (drop k ls)) ∙ ap (λ l. front ++ l) (sym (take-add k n ls))

-- they are written and summed
pub written_more : (out front ls : List ℕ) (k n : ℕ) → (out ++ bytes_of (front ++ take k ls)) ++ bytes_of (take n (drop k ls)) ≡ out ++ bytes_of (front ++ take (k + n) ls)
written_more out front ls k n = grind (arith, append_assoc, bytes_of, bytes_of-append, more)

pub summed_more : (front ls : List ℕ) (k n : ℕ) → fold mix (check_sum (front ++ take k ls)) (take n (drop k ls)) ≡ check_sum (front ++ take (k + n) ls)
unfolding check_sum
summed_more front ls k n = sym (fold-append mix START (front ++ take k ls) (take n (drop k ls))) ∙ ap (fold mix START) (more front ls k n)

-- all words, and the sum
pub written_all : (out : List ℕ) (version kind count width k sum : ℕ) (words : List ℕ) → length words ≤ k
    → sum ≡ check_sum (head version kind count width ++ take k words)
    → (out ++ bytes_of (head version kind count width ++ take k words)) ++ word_bytes sum ≡ out ++ saved version kind count width words
unfolding saved with_sum
written_all out version kind count width k sum words h e =
    let all : take k words ≡ words = take_all k words h in
    flat_map_more word_bytes out (head version kind count width ++ take k words) sum
    ∙ ap (λ s. out ++ bytes_of ((head version kind count width ++ take k words) ++ s ∷ [])) e
    ∙ ap (λ l. out ++ bytes_of ((head version kind count width ++ l) ++ check_sum (head version kind count width ++ l) ∷ [])) all

-- a sum is a word
pub mix-lt : (sum word : ℕ) → mix sum word < 2 ^ 64
unfolding mix
mix-lt sum word =
    let m : ℕ = bit_xor sum word * FACTOR in
    let turned : (m % 2 ^ 64) / 2 ^ 35 < 2 ^ 64 = omega (arith, shr_le (m % 2 ^ 64) 35, mod_below m (2 ^ 64) (pow_pos 64)) in
    or_lt 64 _ _ (mod_below _ (2 ^ 64) (pow_pos 64)) turned

pub sums_fit : (ws : List ℕ) (sum : ℕ) → sum < 2 ^ 64 → fold mix sum ws < 2 ^ 64
sums_fit [] sum h = h
sums_fit (w ∷ ws) sum h = sums_fit ws (mix sum w) (mix-lt sum w)

pub check_sum-lt : (ws : List ℕ) → check_sum ws < 2 ^ 64
unfolding check_sum
check_sum-lt ws = sums_fit ws START (omega arith)
