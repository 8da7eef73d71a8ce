-- Lines of a text. A text is a list of bytes, of which 10 ends a line.
use Rattle.std.specs.Prelude.{ℕ, ◌==◌, List, [], ◌∷◌, ◌++◌, filter}
use Rattle.std.specs.List.{slice_split}
use Rattle.vers_words.specs.Text.{has_bytes}

-- all but the last
abbrev pub front : {X : Type 0} → List X → List X
front [] = []
front (x ∷ []) = []
front (x ∷ y ∷ ys) = x ∷ front (y ∷ ys)

-- the last, or d if there is none
abbrev pub last_element_or : {X : Type 0} → X → List X → X
last_element_or d [] = d
last_element_or d (x ∷ xs) = last_element_or x xs

-- the complete lines of a text: the bytes before each byte 10, from the one before it
abbrev pub whole_lines : List ℕ → List (List ℕ)
whole_lines text = front (slice_split (λ byte. byte == 10) text)

-- the bytes after the last byte 10 of a text
abbrev pub last_part : List ℕ → List ℕ
last_part text = last_element_or [] (slice_split (λ byte. byte == 10) text)

-- the lines of an input that was read to its end; an empty last part is no line
abbrev pub lines_of : List ℕ → List (List ℕ)
lines_of text = whole_lines text ++ filter has_bytes (last_part text ∷ [])
