-- Words and numbers of a text. A text is a list of bytes: 32 separates words, and 13 may end
-- a line.
use Rattle.std.specs.Prelude.{ℕ, ◌^◌, ℤ, pos, neg_ℤ, Bool, true, false, ◌&&◌, ◌==◌, not, nat_le, nat_lt, List, [], ◌∷◌, filter, length, take, drop, Option, Some, None, option_and_then, if◌then◌else◌}
use Rattle.std.specs.List.{slice_split, list_all, position_or_len}
use Rattle.std.specs.Char.{is_ascii_digit}
use Rattle.std.specs.Str.Parse.{digits_value}
use Rattle.std.specs.Io.BufRead.{strip_last}

-- whether a text has bytes
abbrev pub has_bytes : List ℕ → Bool
has_bytes text = not (length text == 0)

-- the words of a text: its longest runs of bytes other than 32
abbrev pub words_in : List ℕ → List (List ℕ)
words_in text = filter has_bytes (slice_split (λ byte. byte == 32) text)

-- a text without the spaces at its beginning
abbrev pub after_spaces : List ℕ → List ℕ
after_spaces text = drop (position_or_len (λ byte. not (byte == 32)) text) text

-- the bytes of a text before its first space, and the rest
abbrev pub split_at_space : List ℕ → List ℕ × List ℕ
split_at_space text = (take (position_or_len (λ byte. byte == 32) text) text, drop (position_or_len (λ byte. byte == 32) text) text)

-- the first word of a text and the text after it, if it has a word
abbrev pub first_word : List ℕ → Option (List ℕ × List ℕ)
first_word text = if has_bytes (after_spaces text) then Some (split_at_space (after_spaces text)) else None

-- the words of a line, without one byte 13 at its end
abbrev pub words_of : List ℕ → List (List ℕ)
words_of line = words_in (strip_last 13 line)

-- the number that a word writes in decimal digits, if it fits in 64 bits
unfoldable pub number_of : List ℕ → Option ℕ
number_of word =
    if has_bytes word && (list_all is_ascii_digit word && nat_lt (digits_value 10 word) (2 ^ 64))
    then Some (digits_value 10 word)
    else None

-- a number, or its negation, if it fits in 64 bits with a sign
abbrev pub with_sign : Bool → ℕ → Option ℤ
with_sign false n = if nat_lt n (2 ^ 63) then Some (pos n) else None
with_sign true n = if nat_le n (2 ^ 63) then Some (neg_ℤ (pos n)) else None

-- the signed number that a word writes: decimal digits, or `-` and decimal digits
unfoldable pub signed_number_of : List ℕ → Option ℤ
signed_number_of [] = None
signed_number_of (byte ∷ bytes) =
    if byte == 45
    then option_and_then (with_sign true) (number_of bytes)
    else option_and_then (with_sign false) (number_of (byte ∷ bytes))
