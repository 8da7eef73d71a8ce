-- Words in an order.
use Rattle.vers_saved.proofs.Names.{◌≡◌, ℕ, zero, suc, ◌+◌, ◌-◌, ◌/◌, ◌<◌, ◌&&◌, Bool, true, List, [], ◌∷◌, ◌++◌, length, get_or, take, drop, refl, sym, ap, ◌∙◌, arith, take_more, get_or-take, get_or-drop, length-take, length-drop, take_all, each_next, words_among, stands, in_steps, ordered_words}
use Rattle.std.proofs.Math.Bool.{and_assoc, and_comm}
use Rattle.vers_saved.specs.declared.kind.Order.{Order}

-- with one word more they are in the order if that word and the last one before it are
pub each_next-more : (o : ℕ → ℕ → Bool) (xs : List ℕ) (j : ℕ) → suc j < length xs
    → each_next o (take (suc (suc j)) xs) ≡ (each_next o (take (suc j) xs) && o (get_or xs j 0) (get_or xs (suc j) 0))
each_next-more o (x ∷ y ∷ xs) zero h = and_comm (o x y) true
each_next-more o (x ∷ y ∷ xs) (suc j) h =
    ap (λ b. o x y && b) (each_next-more o (y ∷ xs) j (omega arith))
    ∙ sym (and_assoc (o x y) (each_next o (take (suc j) (y ∷ xs))) (o (get_or (y ∷ xs) j 0) (get_or (y ∷ xs) (suc j) 0)))
each_next-more o _ j h = absurd (omega arith)

-- one word alone is in any order
pub each_next-one : (o : ℕ → ℕ → Bool) (xs : List ℕ) → each_next o (take 1 xs) ≡ true
each_next-one o [] = refl
each_next-one o (x ∷ xs) = refl

pub length-words_among : (n : ℕ) (words : List ℕ) → length words ≡ n + 6 → length (words_among n words) ≡ n
length-words_among n words e = length-take n (drop 5 words) ∙ omega (arith, length-drop 5 words)

pub get_or-words_among : (n : ℕ) (words : List ℕ) (k : ℕ) → k < n → get_or (words_among n words) k 0 ≡ get_or words (k + 5) 0
get_or-words_among n words k h =
    let position : 5 + k ≡ k + 5 = omega arith in
    get_or-take n (drop 5 words) k 0 h ∙ get_or-drop 5 words k 0 ∙ ap (λ p. get_or words p 0) position

-- one word more
pub copied_more : (n : ℕ) (words : List ℕ) (k : ℕ) (kept : List ℕ) (word : ℕ) → length words ≡ n + 6 → k < n → kept ≡ take k (words_among n words)
    → word ≡ get_or words (k + 5) 0 → kept ++ word ∷ [] ≡ take (k + 1) (words_among n words)
copied_more n words k kept word long h is is_word = grind (arith, get_or-words_among, take_more, length-words_among)

-- the next word of a form
pub ordered_more : (o : ℕ → ℕ → Bool) (n : ℕ) (words : List ℕ) (k : ℕ) (holds : Bool) (before next : ℕ) → length words ≡ n + 6 → suc k < n
    → holds ≡ each_next o (take (suc k) (words_among n words)) → before ≡ get_or words (k + 5) 0 → next ≡ get_or words (k + 6) 0
    → (holds && o before next) ≡ each_next o (take (suc (k + 1)) (words_among n words))
ordered_more o n words k holds before next long h so_far is_before is_next =
    let position : suc k + 5 ≡ k + 6 = omega arith in
    let more : suc k ≡ k + 1 = omega arith in
    let first : before ≡ get_or (words_among n words) k 0 = is_before ∙ sym (get_or-words_among n words k (omega arith)) in
    let second : next ≡ get_or (words_among n words) (suc k) 0 = is_next ∙ sym (get_or-words_among n words (suc k) h ∙ ap (λ p. get_or words p 0) position) in
    rw (so_far, first, second)
    (sym (each_next-more o (words_among n words) k (omega (arith, length-words_among n words long))) ∙ ap (λ m. each_next o (take (suc m) (words_among n words))) more)

-- the words that have to are in an order
pub ordered_end : (order : Order) (words : List ℕ) (end k : ℕ) → take end words ≡ ordered_words order words → k ≡ end - 1
    → each_next (stands order) (take (suc k) words) ≡ in_steps order words
ordered_end order words zero k is e = rw e (each_next-one (stands order) words ∙ ap (each_next (stands order)) is)
ordered_end order words (suc end) k is e = let all : suc k ≡ suc end = omega (arith, e) in rw all (ap (each_next (stands order)) is)

pub whole_words : (words : List ℕ) (count : ℕ) → length words ≡ count → take count words ≡ words
whole_words words count e = take_all count words (omega (arith, e))

pub half_words : (words : List ℕ) (count : ℕ) → length words ≡ count → take (count / 2) words ≡ take (length words / 2) words
half_words words count e = ap (λ m. take (m / 2) words) (sym e)

pub ruleset ordering = (whole_words, half_words)
