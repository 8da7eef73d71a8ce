-- The laws of words, as statements.
use Rattle.std.specs.Prelude.{◌≡◌, ℕ, ◌^◌, ◌<◌, List, Some}
use Rattle.std.specs.List.{All}
use Rattle.vers_words.specs.Patterns.{pattern_of, pattern_text}

-- the pattern that symbols are written as has these symbols
abbrev pub PatternsReadBack : Type 0
PatternsReadBack = (symbols : List ℕ) → All (λ s. s < 2 ^ 64) symbols → pattern_of (pattern_text symbols) ≡ Some symbols
