-- Symbols that are written as a pattern.
use Rattle.vers_words.proofs.Imports.{◌≡◌, ◌+◌, ◌<◌, ◌≤◌, ℕ, Bool, List, ◌∷◌, ◌++◌, append_assoc, append-nil, nil_from_length, get_or, drop, drop_all, drop_more, length, ap, sym, ◌∙◌}
use Rattle.vers_words.specs.Patterns.{begun_with, end_of_text, gone_on_with, is_plain}
unfoldable use Rattle.vers_words.specs.Patterns.{gone_on, pattern_text}

-- a pattern of no symbols, and of a first one and others
pub pattern_text-nil : (before symbols : List ℕ) → length symbols ≡ 0 → before ≡ before ++ pattern_text symbols
unfolding pattern_text
pattern_text-nil before symbols none = rw (nil_from_length symbols none) (sym (append-nil before))

pub pattern_text-cons : (before : List ℕ) (symbol : ℕ) (symbols : List ℕ) → before ++ pattern_text (symbol ∷ symbols) ≡ (before ++ begun_with symbol) ++ gone_on (is_plain symbol) symbols
unfolding pattern_text
pattern_text-cons before symbol symbols = sym (append_assoc before (begun_with symbol) (gone_on (is_plain symbol) symbols))

-- one symbol more
pub gone_on-next : (before : List ℕ) (quoted : Bool) (symbols : List ℕ) (i : ℕ) → i < length symbols
    → before ++ gone_on quoted (drop i symbols) ≡ (before ++ gone_on_with quoted (get_or symbols i 0)) ++ gone_on (is_plain (get_or symbols i 0)) (drop (i + 1) symbols)
unfolding gone_on
gone_on-next before quoted symbols i inside =
    let symbol = get_or symbols i 0 in
    ap (λ l. before ++ gone_on quoted l) (drop_more symbols i 0 inside)
    ∙ sym (append_assoc before (gone_on_with quoted symbol) (gone_on (is_plain symbol) (drop (i + 1) symbols)))

-- the last symbol was written
pub gone_on-end : (before : List ℕ) (quoted : Bool) (symbols : List ℕ) (i : ℕ) → length symbols ≤ i → before ++ gone_on quoted (drop i symbols) ≡ before ++ end_of_text quoted
unfolding gone_on
gone_on-end before quoted symbols i past = ap (λ l. before ++ gone_on quoted l) (drop_all i symbols past)
