-- Patterns, read from their front.
use Rattle.vers_words.proofs.Imports.{◌≡◌, ◌==◌, ◌+◌, ℕ, true, false, List, [], ◌∷◌, ◌++◌, append_assoc, append-nil, take, drop, Option, Some, None, refl, sym, ap, ◌∙◌, position, slice_split, take-append-drop, words_in}
use Rattle.std.specs.Option.{is_some, MatchOption}
use Rattle.std.proofs.lemmas.List.Splits.{slice_split_at, slice_split_none}
use Rattle.vers_words.proofs.Positions.{lacks, lacks_before, from_byte}
use Rattle.vers_words.specs.Patterns.{from_words, hex_byte, hex_bytes, joined, pattern_of, words_symbols}

pub joined-nil : (other : Option (List ℕ)) → joined (Some []) other ≡ other
joined-nil None = refl
joined-nil (Some ys) = refl

pub joined-end : (one : Option (List ℕ)) → joined one (Some []) ≡ one
joined-end None = refl
joined-end (Some xs) = ap Some (append-nil xs)

pub joined-none : (one : Option (List ℕ)) → joined one None ≡ None
joined-none None = refl
joined-none (Some xs) = refl

pub joined-assoc : (xs : List ℕ) (one other : Option (List ℕ)) → joined (Some xs) (joined one other) ≡ joined (joined (Some xs) one) other
joined-assoc xs None other = refl
joined-assoc xs (Some ys) None = refl
joined-assoc xs (Some ys) (Some zs) = ap Some (sym (append_assoc xs ys zs))

-- the parts of a text up to its first quote, and after it
parts_at : (text : List ℕ) (i : ℕ) → position (λ b. b == 34) text ≡ Some i → slice_split (λ b. b == 34) text ≡ take i text ∷ slice_split (λ b. b == 34) (drop (i + 1) text)
parts_at text i h =
    let whole : text ≡ take i text ++ 34 ∷ drop (i + 1) text = sym (take-append-drop i text) ∙ ap (λ l. take i text ++ l) (from_byte 34 text i h) in
    ap (slice_split (λ b. b == 34)) whole ∙ slice_split_at (λ b. b == 34) (take i text) 34 (drop (i + 1) text) (lacks_before 34 text i h) refl

parts_whole : (text : List ℕ) → position (λ b. b == 34) text ≡ None → slice_split (λ b. b == 34) text ≡ text ∷ []
parts_whole text h = slice_split_none (λ b. b == 34) text (lacks 34 text h)

-- a pattern without a quote has words alone
pub pattern_of-words : (text : List ℕ) → position (λ b. b == 34) text ≡ None → pattern_of text ≡ joined (words_symbols (words_in text)) (Some [])
pattern_of-words text h = ap from_words (parts_whole text h)

-- a text that has no quote at its end
pub pattern_of-open : (text : List ℕ) (i : ℕ) → position (λ b. b == 34) text ≡ Some i → position (λ b. b == 34) (drop (i + 1) text) ≡ None → pattern_of text ≡ None
pattern_of-open text i h none =
    ap from_words (parts_at text i h ∙ ap (λ parts. take i text ∷ parts) (parts_whole (drop (i + 1) text) none))
    ∙ joined-none (words_symbols (words_in (take i text)))

-- words, a text in quotes, and then a pattern
pub pattern_of-quoted : (text : List ℕ) (i j : ℕ) → position (λ b. b == 34) text ≡ Some i → position (λ b. b == 34) (drop (i + 1) text) ≡ Some j
    → pattern_of text ≡ joined (words_symbols (words_in (take i text))) (joined (Some (take j (drop (i + 1) text))) (pattern_of (drop (j + 1) (drop (i + 1) text))))
pattern_of-quoted text i j h e =
    ap from_words (parts_at text i h ∙ ap (λ parts. take i text ∷ parts) (parts_at (drop (i + 1) text) j e))

-- nothing after something is nothing
pub joined-missing : (xs : List ℕ) (other : Option (List ℕ)) → joined (Some xs) other ≡ None → other ≡ None
joined-missing xs None h = refl
joined-missing xs (Some ys) h = cc

-- two digits that write no byte, and two that write one
pub hex_bytes-none : (high low : ℕ) (digits : List ℕ) → hex_byte high low ≡ None → hex_bytes (high ∷ low ∷ digits) ≡ None
hex_bytes-none high low digits h = rw h refl

pub hex_bytes-some : (high low byte : ℕ) (digits : List ℕ) → hex_byte high low ≡ Some byte → hex_bytes (high ∷ low ∷ digits) ≡ joined (Some (byte ∷ [])) (hex_bytes digits)
hex_bytes-some high low byte digits h = rw h refl

-- what follows if something was done
pub if_done : (done : Option (Unit {0})) (P Q : Type 0) → is_some done ≡ true → MatchOption done P (λ _. Q) → Q
if_done None P Q h m = cc
if_done (Some u) P Q h m = m

pub if_not_done : (done : Option (Unit {0})) (P Q : Type 0) → is_some done ≡ false → MatchOption done P (λ _. Q) → P
if_not_done None P Q h m = m
if_not_done (Some u) P Q h m = cc

-- symbols before a pattern that has words that write none
pub wrong_words : (text symbols : List ℕ) (i j : ℕ) → position (λ b. b == 34) text ≡ Some i → position (λ b. b == 34) (drop (i + 1) text) ≡ Some j
    → words_symbols (words_in (take i text)) ≡ None → joined (Some symbols) (pattern_of text) ≡ None
wrong_words text symbols i j h e none = ap (joined (Some symbols)) (pattern_of-quoted text i j h e ∙ ap (λ first. joined first (joined (Some (take j (drop (i + 1) text))) (pattern_of (drop (j + 1) (drop (i + 1) text))))) none)

-- symbols before words, a text in quotes, and a pattern
pub next_part : (text symbols more : List ℕ) (i j : ℕ) → position (λ b. b == 34) text ≡ Some i → position (λ b. b == 34) (drop (i + 1) text) ≡ Some j
    → Some more ≡ joined (Some symbols) (words_symbols (words_in (take i text)))
    → joined (Some symbols) (pattern_of text) ≡ joined (Some (more ++ take j (drop (i + 1) text))) (pattern_of (drop (j + 1) (drop (i + 1) text)))
next_part text symbols more i j h e done =
    let rest = pattern_of (drop (j + 1) (drop (i + 1) text)) in
    let quoted = take j (drop (i + 1) text) in
    ap (joined (Some symbols)) (pattern_of-quoted text i j h e)
    ∙ joined-assoc symbols (words_symbols (words_in (take i text))) (joined (Some quoted) rest)
    ∙ ap (λ first. joined first (joined (Some quoted) rest)) (sym done)
    ∙ joined-assoc more (Some quoted) rest

-- symbols before a pattern of words alone
pub last_part : (text symbols : List ℕ) → position (λ b. b == 34) text ≡ None
    → joined (Some symbols) (pattern_of text) ≡ joined (Some symbols) (words_symbols (words_in text))
last_part text symbols h = ap (joined (Some symbols)) (pattern_of-words text h ∙ joined-end (words_symbols (words_in text)))
