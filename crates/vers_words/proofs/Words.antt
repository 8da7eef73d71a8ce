-- The words of a text, found from its front.
use Rattle.vers_words.proofs.Imports.{◌≡◌, ◌==◌, ◌+◌, ◌<◌, ◌≤◌, ℕ, zero, suc, Bool, true, not, List, [], ◌∷◌, ◌++◌, length, take, drop, get_or, Option, Some, None, unwrap_or, inl, inr, refl, sym, ap, ◌∙◌, arith, position, position_or_len, slice_split, filter, ne_eqb, eqb_tells, drop_all, take_all, take-append-drop, length-take, length-drop, position-Some, after_spaces, first_word, has_bytes, split_at_space, words_in, ints}
use Rattle.std.proofs.lemmas.Option.{cond_some}
use Rattle.std.proofs.lemmas.List.Splits.{slice_split_at, slice_split_none}
use Rattle.vers_words.proofs.Positions.{position-None, lacks, lacks_before, byte_at, from_byte}

abbrev pub is_other : ℕ → Bool
is_other b = not (b == 32)

-- spaces before a text add no word
words_in-after_spaces : (t : List ℕ) → words_in t ≡ words_in (drop (position_or_len is_other t) t)
words_in-after_spaces [] = refl
words_in-after_spaces (b ∷ t) =
    let next : 1 + position_or_len is_other t ≡ suc (position_or_len is_other t) = omega arith in
    elim (eqb_tells b 32) [
      | inl e ↦ rw (e.0, e.1, next) (words_in-after_spaces t)
      | inr e ↦ let none : position_or_len is_other (b ∷ t) ≡ 0 = rw e.0 refl in ap (λ n. words_in (drop n (b ∷ t))) (sym none)
    ]

-- a text of spaces has no word
pub words_in-spaces : (t : List ℕ) → position is_other t ≡ None → words_in t ≡ []
words_in-spaces t h = rw (words_in-after_spaces t, drop_all (position_or_len is_other t) t (position-None is_other t h)) refl

-- the words are from the first byte that is no space
pub words_in-from : (t : List ℕ) (i : ℕ) → position is_other t ≡ Some i → words_in t ≡ words_in (drop i t)
words_in-from t i h = words_in-after_spaces t ∙ ap (λ n. words_in (drop n t)) (cond_some _ _ _ h).1

-- a part with bytes is kept
first_kept : (w : List ℕ) (ws : List (List ℕ)) → 0 < length w → filter has_bytes (w ∷ ws) ≡ w ∷ filter has_bytes ws
first_kept w ws some = rw (ne_eqb (length w) 0 (λ e. omega arith)) refl

-- else a word ends at the first space
words_in-word : (t : List ℕ) (n : ℕ) → 0 < n → position (λ b. b == 32) t ≡ Some n → words_in t ≡ take n t ∷ words_in (drop n t)
words_in-word t n some h =
    let within = (position-Some (λ b. b == 32) t n 0 h).0 in
    let long : 0 < length (take n t) = omega (arith, length-take n t) in
    let rest = from_byte 32 t n h in
    let whole : t ≡ take n t ++ 32 ∷ drop (n + 1) t = sym (take-append-drop n t) ∙ ap (λ l. take n t ++ l) rest in
    let split = slice_split_at (λ b. b == 32) (take n t) 32 (drop (n + 1) t) (lacks_before 32 t n h) refl in
    ap words_in whole ∙ ap (filter has_bytes) split ∙ first_kept (take n t) (slice_split (λ b. b == 32) (drop (n + 1) t)) long
    ∙ ap (λ l. take n t ∷ words_in l) (sym rest)

-- no space is first
above_zero : (t : List ℕ) (n : ℕ) → position (λ b. b == 32) t ≡ Some n → is_other (get_or t 0 0) ≡ true → 0 < n
above_zero t zero h other = let space = byte_at 32 t 0 h in cc (rw space at other)
above_zero t (suc n) h other = omega arith

-- a text that begins with no space begins with a word, up to the first space or the end
pub words_in-first : (t : List ℕ) (found : Option ℕ) (n : ℕ) → position (λ b. b == 32) t ≡ found → n ≡ unwrap_or found (length t)
    → 0 < length t → is_other (get_or t 0 0) ≡ true → (0 < n) × (words_in t ≡ take n t ∷ words_in (drop n t))
words_in-first t None n h e some other =
    let all : length t ≤ length t = omega arith in
    rw e (some, rw (take_all (length t) t all, drop_all (length t) t all) (grind (arith, ints, slice_split_none, lacks, first_kept)))
words_in-first t (Some m) n h e some other =
    let first = above_zero t m h other in rw e (first, words_in-word t m first h)

-- a text is split at its first space, or at its end
split_there : (t : List ℕ) (found : Option ℕ) (n : ℕ) → position (λ b. b == 32) t ≡ found → n ≡ unwrap_or found (length t) → split_at_space t ≡ (take n t, drop n t)
split_there t None n h e =
    let far = position-None (λ b. b == 32) t h in
    let all : length t ≤ length t = omega arith in
    rw e (rw (take_all (position_or_len (λ b. b == 32) t) t far, drop_all (position_or_len (λ b. b == 32) t) t far, take_all (length t) t all, drop_all (length t) t all) refl)
split_there t (Some m) n h e = rw (e, (cond_some _ _ _ h).1) refl

-- the first word begins with the first byte that is no space
pub first_word-from : (t : List ℕ) (i : ℕ) (found : Option ℕ) (n : ℕ) → position is_other t ≡ Some i → position (λ b. b == 32) (drop i t) ≡ found → n ≡ unwrap_or found (length (drop i t))
    → Some (take n (drop i t), drop n (drop i t)) ≡ first_word t
first_word-from t i found n from h e =
    let within : i < length t = (position-Some is_other t i 0 from).0 in
    let some : 0 < length (drop i t) = omega (arith, length-drop i t) in
    let start : after_spaces t ≡ drop i t = rw (cond_some _ _ _ from).1 refl in
    let bytes : has_bytes (drop i t) ≡ true = rw (ne_eqb (length (drop i t)) 0 (λ z. omega arith)) refl in
    sym (rw (start, bytes, split_there (drop i t) found n h e) refl)
