-- Patterns of symbols, read back.
use Rattle.vers_words.proofs.Imports.{◌≡◌, ◌==◌, ◌+◌, ◌*◌, ◌/◌, ◌%◌, ◌<◌, ℕ, Bool, true, false, List, [], ◌∷◌, ◌++◌, append_assoc, append-nil, length, Option, Some, None, refl, sym, ap, ◌∙◌, arith, nat_tests, decimal, filter, slice_split, All, inl, inr, cases_lt, has_bytes, words_in, list_all, is_ascii_digit, number_of}
use Rattle.std.proofs.Common.{rules, cond, ◌⊎◌}
use Rattle.std.proofs.lemmas.Bool.{cases_Bool}
use Rattle.std.specs.List.{onto_first}
use Rattle.std.specs.Prelude.{option_map}
use Rattle.std.specs.Str.Parse.{AllDigits}
use Rattle.std.proofs.lemmas.Str.Parse.{digit_at}
use Rattle.std.proofs.lemmas.List.Elements.{All-append, All-cons, All-head, All-tail, filter-append}
use Rattle.std.proofs.lemmas.List.Splits.{length-slice_split, slice_split_at, slice_split_none}
use Rattle.std.proofs.lemmas.Fmt.{decimal_is_IsNumeral}
use Rattle.vers_words.proofs.Quotes.{joined-assoc, joined-end, joined-nil}
use Rattle.vers_words.specs.Patterns.{digit_of, from_text, from_words, hex_byte, hex_digit, is_plain, joined, number_symbol, pattern_of, symbol_word, word_symbols, words_symbols}
unfoldable use Rattle.vers_words.specs.Patterns.{gone_on, pattern_text}

-- ---- the word of a symbol

digit_back : (d : ℕ) → d < 16 → hex_digit (digit_of d) ≡ Some d
digit_back d few = grind (arith, nat_tests)

byte_back : (s : ℕ) → s < 256 → hex_byte (digit_of (s / 16)) (digit_of (s % 16)) ≡ Some s
byte_back s few =
    let whole : 16 * (s / 16) + s % 16 ≡ s = omega arith in
    rw (digit_back (s / 16) (omega arith), digit_back (s % 16) (omega arith)) (ap Some whole)

digits_back : (ds : List ℕ) → AllDigits 10 ds → list_all is_ascii_digit ds ≡ true
digits_back [] h = refl
digits_back (c ∷ cs) h =
    let here : is_ascii_digit c ≡ true = grind (arith, nat_tests, digit_at (c ∷ cs) 0 h (omega arith)) in
    rw (here, digits_back cs h.1) refl

number_back : (n : ℕ) → n < 18446744073709551616 → number_of (decimal n) ≡ Some n
unfolding number_of
number_back n small =
    let is = decimal_is_IsNumeral n small in
    let some : has_bytes (decimal n) ≡ true = grind (arith, nat_tests, is.0.0) in
    grind (arith, nat_tests, some, digits_back (decimal n) is.0.1, is.1)

-- digits are no `0x`
digits_are_number : (w : List ℕ) → list_all is_ascii_digit w ≡ true → word_symbols w ≡ number_symbol w
digits_are_number [] h = refl
digits_are_number (a ∷ []) h = refl
digits_are_number (a ∷ b ∷ bs) h =
    let no : (b == 120) ≡ false = grind (arith, nat_tests) in
    grind (arith, nat_tests, no)

-- a word is no text, has no space, and is read as its symbol
pub record IsWordOf (w : List ℕ) (s : ℕ) : Type 0 where
  pub no_quote : All (λ b. (b == 34) ≡ false) w
  pub no_space : All (λ b. (b == 32) ≡ false) w
  pub some : has_bytes w ≡ true
  pub reads : word_symbols w ≡ Some (s ∷ [])

lacks_digit : (c : ℕ) → c < 48 → (ds : List ℕ) → list_all is_ascii_digit ds ≡ true → All (λ b. (b == c) ≡ false) ds
lacks_digit c low [] h = search rules
lacks_digit c low (d ∷ ds) h =
    let other : (d == c) ≡ false = grind (arith, nat_tests) in
    let rest : list_all is_ascii_digit ds ≡ true = grind (arith, nat_tests) in
    All-cons (λ b. (b == c) ≡ false) d ds other (lacks_digit c low ds rest)

digit_is_none : (c d : ℕ) → c < 48 → d < 16 → (digit_of d == c) ≡ false
digit_is_none c d low few = grind (arith, nat_tests)

nothing : (P : ℕ → Type 0) → All P []
nothing P = search rules

lacks_byte : (c s : ℕ) → c < 48 → s < 256 → All (λ b. (b == c) ≡ false) (48 ∷ 120 ∷ digit_of (s / 16) ∷ digit_of (s % 16) ∷ [])
lacks_byte c s low few =
    let lacks : ℕ → Type 0 = λ b. (b == c) ≡ false in
    let zero_other : (48 == c) ≡ false = grind (arith, nat_tests) in
    let x_other : (120 == c) ≡ false = grind (arith, nat_tests) in
    let high = digit_of (s / 16) in
    let low_digit = digit_of (s % 16) in
    All-cons lacks 48 (120 ∷ high ∷ low_digit ∷ []) zero_other (All-cons lacks 120 (high ∷ low_digit ∷ []) x_other
    (All-cons lacks high (low_digit ∷ []) (digit_is_none c (s / 16) low (omega arith)) (All-cons lacks low_digit [] (digit_is_none c (s % 16) low (omega arith)) (nothing lacks))))

pub word_back : (s : ℕ) → s < 18446744073709551616 → IsWordOf (symbol_word s) s
word_back s small = elim (cases_lt s 256) [
  | inl few ↦
      let word : symbol_word s ≡ 48 ∷ 120 ∷ digit_of (s / 16) ∷ digit_of (s % 16) ∷ [] = grind (arith, nat_tests) in
      rw word (record {
        no_quote = lacks_byte 34 s (omega arith) few;
        no_space = lacks_byte 32 s (omega arith) few;
        some = refl;
        reads = rw (byte_back s few) refl;
      })
  | inr many ↦
      let is = decimal_is_IsNumeral s small in
      let digits = digits_back (decimal s) is.0.1 in
      let word : symbol_word s ≡ decimal s = grind (arith, nat_tests) in
      rw word (record {
        no_quote = lacks_digit 34 (omega arith) (decimal s) digits;
        no_space = lacks_digit 32 (omega arith) (decimal s) digits;
        some = grind (arith, nat_tests, is.0.0);
        reads = digits_are_number (decimal s) digits ∙ ap (option_map (λ n. n ∷ [])) (number_back s small);
      })
]

-- ---- words after a space

split_step : (t : Bool) (b : ℕ) (parts others : List (List ℕ)) → 0 < length parts
    → cond t ([] ∷ (parts ++ others)) (onto_first b (parts ++ others)) ≡ cond t ([] ∷ parts) (onto_first b parts) ++ others
split_step true b parts others some = refl
split_step false b [] others some = absurd (omega (arith, some))
split_step false b (part ∷ parts) others some = refl

split_behind : (w more : List ℕ) → slice_split (λ b. b == 32) (w ++ 32 ∷ more) ≡ slice_split (λ b. b == 32) w ++ slice_split (λ b. b == 32) more
split_behind [] more = refl
split_behind (b ∷ w) more =
    ap (λ parts. cond (b == 32) ([] ∷ parts) (onto_first b parts)) (split_behind w more)
    ∙ split_step (b == 32) b (slice_split (λ b. b == 32) w) (slice_split (λ b. b == 32) more) (omega (arith, length-slice_split (λ b. b == 32) w))

words_behind : (w more : List ℕ) → words_in (w ++ 32 ∷ more) ≡ words_in w ++ words_in more
words_behind w more = ap (filter has_bytes) (split_behind w more) ∙ filter-append has_bytes (slice_split (λ b. b == 32) w) (slice_split (λ b. b == 32) more)

one_word : (w : List ℕ) → All (λ b. (b == 32) ≡ false) w → has_bytes w ≡ true → words_in w ≡ w ∷ []
one_word w no_space some = ap (filter has_bytes) (slice_split_none (λ b. b == 32) w no_space) ∙ rw some refl

joined_of : (one two three : Option (List ℕ)) → joined one (joined two three) ≡ joined (joined one two) three
joined_of None two three = refl
joined_of (Some xs) two three = joined-assoc xs two three

symbols_behind : (words : List (List ℕ)) (w : List ℕ) → words_symbols (words ++ w ∷ []) ≡ joined (words_symbols words) (word_symbols w)
symbols_behind [] w = joined-end (word_symbols w) ∙ sym (joined-nil (word_symbols w))
symbols_behind (v ∷ words) w = ap (joined (word_symbols v)) (symbols_behind words w) ∙ joined_of (word_symbols v) (words_symbols words) (word_symbols w)

-- the symbols of words, and one more after them
word_more : (w : List ℕ) (s : ℕ) → s < 18446744073709551616 → words_symbols (words_in (w ++ 32 ∷ symbol_word s)) ≡ joined (words_symbols (words_in w)) (Some (s ∷ []))
word_more w s small =
    let is = word_back s small in
    ap words_symbols (words_behind w (symbol_word s) ∙ ap (λ more. words_in w ++ more) (one_word (symbol_word s) is.no_space is.some))
    ∙ symbols_behind (words_in w) (symbol_word s) ∙ ap (joined (words_symbols (words_in w))) is.reads

-- ---- how a pattern continues

goes_plain : (s : ℕ) (rest : List ℕ) → is_plain s ≡ true → (gone_on true (s ∷ rest) ≡ s ∷ gone_on true rest) × (gone_on false (s ∷ rest) ≡ 32 ∷ 34 ∷ s ∷ gone_on true rest)
unfolding gone_on
goes_plain s rest plain = (rw plain refl, rw plain refl)

goes_other : (s : ℕ) (rest : List ℕ) → is_plain s ≡ false
    → (gone_on true (s ∷ rest) ≡ 34 ∷ 32 ∷ (symbol_word s ++ gone_on false rest)) × (gone_on false (s ∷ rest) ≡ 32 ∷ (symbol_word s ++ gone_on false rest))
unfolding gone_on
goes_other s rest other = (rw other refl, rw other refl)

goes_nowhere : (gone_on true [] ≡ 34 ∷ []) × (gone_on false [] ≡ [])
unfolding gone_on
goes_nowhere = (refl, refl)

plain_no_quote : (s : ℕ) → is_plain s ≡ true → (s == 34) ≡ false
plain_no_quote s plain = grind (arith, nat_tests)

-- the parts of a text that is cut at its quotes
abbrev parts : List ℕ → List (List ℕ)
parts text = slice_split (λ b. b == 34) text

abbrev NoQuote : List ℕ → Type 0
NoQuote text = All (λ b. (b == 34) ≡ false) text

abbrev Small : List ℕ → Type 0
Small symbols = All (λ s. s < 18446744073709551616) symbols

-- symbols in a text that has begun, and after words
pub record ReadOn (rest : List ℕ) : Type 0 where
  pub in_text : (t : List ℕ) → NoQuote t → from_text (parts (t ++ gone_on true rest)) ≡ Some (t ++ rest)
  pub behind : (w : List ℕ) → NoQuote w → from_words (parts (w ++ gone_on false rest)) ≡ joined (words_symbols (words_in w)) (Some rest)

read_none : ReadOn []
read_none = record {
  in_text = λ t no.
      ap (λ l. from_text (parts (t ++ l))) goes_nowhere.0 ∙ ap from_text (slice_split_at (λ b. b == 34) t 34 [] no refl);
  behind = λ w no.
      ap (λ l. from_words (parts (w ++ l))) goes_nowhere.1 ∙ ap (λ l. from_words (parts l)) (append-nil w) ∙ ap from_words (slice_split_none (λ b. b == 34) w no);
}

read_plain : (s : ℕ) (rest : List ℕ) → is_plain s ≡ true → ReadOn rest → ReadOn (s ∷ rest)
read_plain s rest plain more =
    let goes = goes_plain s rest plain in
    let alone : NoQuote (s ∷ []) = All-cons (λ b. (b == 34) ≡ false) s [] (plain_no_quote s plain) (nothing (λ b. (b == 34) ≡ false)) in
    record {
      in_text = λ t no.
          ap (λ l. from_text (parts (t ++ l))) goes.0
          ∙ ap (λ l. from_text (parts l)) (sym (append_assoc t (s ∷ []) (gone_on true rest)))
          ∙ more.in_text (t ++ s ∷ []) (All-append (λ b. (b == 34) ≡ false) t (s ∷ []) no alone)
          ∙ ap Some (append_assoc t (s ∷ []) rest);
      behind = λ w no.
          let spaced : NoQuote (w ++ 32 ∷ []) = All-append (λ b. (b == 34) ≡ false) w (32 ∷ []) no (All-cons (λ b. (b == 34) ≡ false) 32 [] refl (nothing (λ b. (b == 34) ≡ false))) in
          let words : words_in (w ++ 32 ∷ []) ≡ words_in w = words_behind w [] ∙ append-nil (words_in w) in
          ap (λ l. from_words (parts (w ++ l))) goes.1
          ∙ ap (λ l. from_words (parts l)) (sym (append_assoc w (32 ∷ []) (34 ∷ s ∷ gone_on true rest)))
          ∙ ap from_words (slice_split_at (λ b. b == 34) (w ++ 32 ∷ []) 34 (s ∷ gone_on true rest) spaced refl)
          ∙ ap (λ found. joined (words_symbols (words_in (w ++ 32 ∷ []))) found) (more.in_text (s ∷ []) alone)
          ∙ ap (λ found. joined (words_symbols found) (Some (s ∷ rest))) words;
    }

read_other : (s : ℕ) (rest : List ℕ) → is_plain s ≡ false → s < 18446744073709551616 → ReadOn rest → ReadOn (s ∷ rest)
read_other s rest other small more =
    let goes = goes_other s rest other in
    let is = word_back s small in
    let lacks : ℕ → Type 0 = λ b. (b == 34) ≡ false in
    let word : NoQuote (32 ∷ symbol_word s) = All-cons (λ b. (b == 34) ≡ false) 32 (symbol_word s) refl is.no_quote in
    record {
      in_text = λ t no.
          ap (λ l. from_text (parts (t ++ l))) goes.0
          ∙ ap from_text (slice_split_at (λ b. b == 34) t 34 (32 ∷ (symbol_word s ++ gone_on false rest)) no refl)
          ∙ ap (joined (Some t)) (more.behind (32 ∷ symbol_word s) word ∙ ap (λ found. joined found (Some rest)) (word_more [] s small));
      behind = λ w no.
          ap (λ l. from_words (parts (w ++ l))) goes.1
          ∙ ap (λ l. from_words (parts l)) (sym (append_assoc w (32 ∷ symbol_word s) (gone_on false rest)))
          ∙ more.behind (w ++ 32 ∷ symbol_word s) (All-append (λ b. (b == 34) ≡ false) w (32 ∷ symbol_word s) no word)
          ∙ ap (λ found. joined found (Some rest)) (word_more w s small)
          ∙ sym (joined_of (words_symbols (words_in w)) (Some (s ∷ [])) (Some rest));
    }

tells_plain : (s : ℕ) → (is_plain s ≡ true) ⊎ (is_plain s ≡ false)
tells_plain s = cases_Bool (is_plain s)

read_on : (rest : List ℕ) → Small rest → ReadOn rest
read_on [] small = read_none
read_on (s ∷ rest) small =
    let more = read_on rest (All-tail (λ (n : ℕ). n < 18446744073709551616) s rest small) in
    elim (tells_plain s) [
      | inl plain ↦ read_plain s rest plain more
      | inr other ↦ read_other s rest other (All-head (λ (n : ℕ). n < 18446744073709551616) s rest small) more
    ]

pub pattern_back : (symbols : List ℕ) → Small symbols → pattern_of (pattern_text symbols) ≡ Some symbols
unfolding pattern_text
pattern_back [] small = refl
pattern_back (s ∷ rest) small =
    let first = All-head (λ (n : ℕ). n < 18446744073709551616) s rest small in
    let more = read_on rest (All-tail (λ (n : ℕ). n < 18446744073709551616) s rest small) in
    elim (tells_plain s) [
      | inl plain ↦
          let alone : NoQuote (s ∷ []) = All-cons (λ b. (b == 34) ≡ false) s [] (plain_no_quote s plain) (nothing (λ b. (b == 34) ≡ false)) in
          rw plain (ap (joined (Some [])) (more.in_text (s ∷ []) alone))
      | inr other ↦
          let is = word_back s first in
          rw other (more.behind (symbol_word s) is.no_quote ∙ ap (λ found. joined found (Some rest)) (ap words_symbols (one_word (symbol_word s) is.no_space is.some) ∙ ap (λ found. joined found (Some [])) is.reads))
    ]

pub ruleset read_back = (pattern_back)
