-- The symbols of a pattern: numbers, bytes after `0x`, and texts in quotes; and a pattern of symbols.
use Rattle.std.specs.Prelude.{ℕ, Bool, ◌&&◌, not, ◌-◌, ◌*◌, ◌+◌, ◌/◌, ◌%◌, ◌==◌, ◌++◌, nat_le, nat_lt, decimal, List, [], ◌∷◌, Option, Some, None, option_map, option_and_then, if◌then◌else◌}
use Rattle.std.specs.List.{slice_split}
use Rattle.vers_words.specs.Text.{first_word, has_bytes, number_of, words_in}

-- the value of a hexadecimal digit, if a byte is one
abbrev pub hex_digit : ℕ → Option ℕ
hex_digit byte =
    if nat_le 48 byte && nat_le byte 57 then Some (byte - 48)
    else (if nat_le 97 byte && nat_le byte 102 then Some (byte - 87)
    else (if nat_le 65 byte && nat_le byte 70 then Some (byte - 55) else None))

-- the byte that two hexadecimal digits write
abbrev pub hex_byte : ℕ → ℕ → Option ℕ
hex_byte high low = option_and_then (λ m. option_map (λ n. 16 * m + n) (hex_digit low)) (hex_digit high)

-- two lists as one, if both are there
abbrev pub joined : Option (List ℕ) → Option (List ℕ) → Option (List ℕ)
joined one other = option_and_then (λ xs. option_map (λ ys. xs ++ ys) other) one

-- the bytes that hexadecimal digits write, two for each
abbrev pub hex_bytes : List ℕ → Option (List ℕ)
hex_bytes [] = Some []
hex_bytes (digit ∷ []) = None
hex_bytes (high ∷ low ∷ digits) = joined (option_map (λ byte. byte ∷ []) (hex_byte high low)) (hex_bytes digits)

-- the symbol that a word of decimal digits writes
abbrev pub number_symbol : List ℕ → Option (List ℕ)
number_symbol word = option_map (λ n. n ∷ []) (number_of word)

-- the symbols that a word writes: the bytes after `0x`, or one number
abbrev pub word_symbols : List ℕ → Option (List ℕ)
word_symbols [] = number_symbol []
word_symbols (byte ∷ []) = number_symbol (byte ∷ [])
word_symbols (first ∷ second ∷ bytes) =
    if (first == 48) && (second == 120) then (if has_bytes bytes then hex_bytes bytes else None) else number_symbol (first ∷ second ∷ bytes)

-- the symbols that words write
abbrev pub words_symbols : List (List ℕ) → Option (List ℕ)
words_symbols [] = Some []
words_symbols (word ∷ words) = joined (word_symbols word) (words_symbols words)

-- the symbols that the parts of a pattern write, of which the first has words and each second one is a text
abbrev mutual
  pub from_words : List (List ℕ) → Option (List ℕ)
  from_words [] = None
  from_words (part ∷ parts) = joined (words_symbols (words_in part)) (from_text parts)

  pub from_text : List (List ℕ) → Option (List ℕ)
  from_text [] = Some []
  from_text (text ∷ parts) = joined (Some text) (from_words parts)

-- the symbols of a pattern: quotes separate words and texts, and each text ends with a quote
abbrev pub pattern_of : List ℕ → Option (List ℕ)
pattern_of pattern = from_words (slice_split (λ byte. byte == 34) pattern)

-- a number, and the symbols of the pattern after it
abbrev pub number_and_pattern : List ℕ → Option (ℕ × List ℕ)
number_and_pattern text =
    option_and_then (λ parts. option_and_then (λ n. option_map (λ symbols. (n, symbols)) (pattern_of parts.1)) (number_of parts.0)) (first_word text)

-- ---- symbols as a pattern

-- whether a symbol is a byte that a text in quotes has as it is: a printable byte of ASCII other than the quote
abbrev pub is_plain : ℕ → Bool
is_plain symbol = nat_le 32 symbol && (nat_le symbol 126 && not (symbol == 34))

-- the hexadecimal digit of a value
abbrev pub digit_of : ℕ → ℕ
digit_of value = if nat_lt value 10 then 48 + value else 55 + value

-- a symbol as a word: a byte as `0x` and two digits, a greater symbol as a number
abbrev pub symbol_word : ℕ → List ℕ
symbol_word symbol = if nat_lt symbol 256 then 48 ∷ 120 ∷ digit_of (symbol / 16) ∷ digit_of (symbol % 16) ∷ [] else decimal symbol

-- a first symbol: a text that begins with it, or its word
abbrev pub begun_with : ℕ → List ℕ
begun_with symbol = if is_plain symbol then 34 ∷ symbol ∷ [] else symbol_word symbol

-- the end of a text, if one is open
abbrev pub end_of_text : Bool → List ℕ
end_of_text quoted = if quoted then 34 ∷ [] else []

-- another symbol, in an open text or after a word
abbrev pub gone_on_with : Bool → ℕ → List ℕ
gone_on_with quoted symbol = if quoted && is_plain symbol then symbol ∷ [] else end_of_text quoted ++ 32 ∷ begun_with symbol

-- more symbols, and the end of the last text
unfoldable pub gone_on : Bool → List ℕ → List ℕ
gone_on quoted [] = end_of_text quoted
gone_on quoted (symbol ∷ symbols) = gone_on_with quoted symbol ++ gone_on (is_plain symbol) symbols

-- symbols as a pattern: the longest runs of plain bytes in quotes, the others as words, with spaces between them
unfoldable pub pattern_text : List ℕ → List ℕ
pattern_text [] = []
pattern_text (symbol ∷ symbols) = begun_with symbol ++ gone_on (is_plain symbol) symbols
