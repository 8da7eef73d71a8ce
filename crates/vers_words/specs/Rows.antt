-- Worked rows of the definitions, which compute.
use Rattle.std.specs.Prelude.{◌≡◌, ◌++◌, pos, negsuc, [], ◌∷◌, codes, Some, None, refl}
use Rattle.std.specs.Fmt.{digits}
use Rattle.vers_words.specs.Text.{number_of, signed_number_of, words_of}
use Rattle.vers_words.specs.Arguments.{bits_of, two_numbers, three_numbers, number_and_signed, all_numbers}
use Rattle.vers_words.specs.Patterns.{number_and_pattern, pattern_of}
use Rattle.vers_words.specs.Reply.{Signed, Numbers, reply_text}

pub number_of-007 : number_of (codes "007") ≡ Some 7
unfolding number_of
number_of-007 = refl

pub number_of-largest : number_of (codes "18446744073709551615") ≡ Some 18446744073709551615
unfolding number_of
number_of-largest = refl

pub number_of-too_large : number_of (codes "18446744073709551616") ≡ None
unfolding number_of
number_of-too_large = refl

pub number_of-minus : number_of (codes "-1") ≡ None
unfolding number_of
number_of-minus = refl

pub number_of-no_digit : number_of [] ≡ None
unfolding number_of
number_of-no_digit = refl

-- a sign, and the ends of the range
pub signed_number_of-minus : signed_number_of (codes "-12") ≡ Some (negsuc 11)
unfolding signed_number_of number_of
signed_number_of-minus = refl

pub signed_number_of-minus_zero : signed_number_of (codes "-00") ≡ Some (pos 0)
unfolding signed_number_of number_of
signed_number_of-minus_zero = refl

pub signed_number_of-least : signed_number_of (codes "-9223372036854775808") ≡ Some (negsuc 9223372036854775807)
unfolding signed_number_of number_of
signed_number_of-least = refl

pub signed_number_of-below_least : signed_number_of (codes "-9223372036854775809") ≡ None
unfolding signed_number_of number_of
signed_number_of-below_least = refl

pub signed_number_of-greatest : signed_number_of (codes "9223372036854775807") ≡ Some (pos 9223372036854775807)
unfolding signed_number_of number_of
signed_number_of-greatest = refl

pub signed_number_of-above_greatest : signed_number_of (codes "9223372036854775808") ≡ None
unfolding signed_number_of number_of
signed_number_of-above_greatest = refl

pub signed_number_of-sign_alone : signed_number_of (codes "-") ≡ None
unfolding signed_number_of number_of
signed_number_of-sign_alone = refl

-- runs of spaces make no words, and one byte 13 at the end is dropped
pub words_of-spaces : words_of (codes " rank1  3 " ++ 13 ∷ []) ≡ codes "rank1" ∷ codes "3" ∷ []
words_of-spaces = refl

pub words_of-return_alone : words_of (13 ∷ []) ≡ []
words_of-return_alone = refl

-- a byte 13 elsewhere, as a tab, is a part of its word
pub words_of-inner_return : words_of (97 ∷ 13 ∷ 9 ∷ 98 ∷ 13 ∷ 13 ∷ []) ≡ (97 ∷ 13 ∷ 9 ∷ 98 ∷ 13 ∷ []) ∷ []
words_of-inner_return = refl

pub bits_of-none : bits_of [] ≡ Some []
bits_of-none = refl

pub bits_of-digit_2 : bits_of (codes "012" ∷ []) ≡ None
bits_of-digit_2 = refl

pub bits_of-two_words : bits_of (codes "0" ∷ codes "1" ∷ []) ≡ None
bits_of-two_words = refl

-- numbers of a load line
pub all_numbers-some : all_numbers (codes "12" ∷ codes "7" ∷ []) ≡ Some (12 ∷ 7 ∷ [])
unfolding number_of
all_numbers-some = refl

pub all_numbers-malformed : all_numbers (codes "12" ∷ codes "x" ∷ []) ≡ None
unfolding number_of
all_numbers-malformed = refl

-- a line with two arguments
pub two_numbers-some : two_numbers (codes "2" ∷ codes "4" ∷ []) ≡ Some (2, 4)
unfolding number_of
two_numbers-some = refl

pub two_numbers-three : two_numbers (codes "2" ∷ codes "4" ∷ codes "4" ∷ []) ≡ None
two_numbers-three = refl

-- a line with a signed argument
pub number_and_signed-some : number_and_signed (codes "2" ∷ codes "-1" ∷ []) ≡ Some (2, negsuc 0)
unfolding number_of signed_number_of
number_and_signed-some = refl

-- a line with three arguments
pub three_numbers-some : three_numbers (codes "0" ∷ codes "3" ∷ codes "4" ∷ []) ≡ Some (0, 3, 4)
unfolding number_of
three_numbers-some = refl

pub three_numbers-two : three_numbers (codes "0" ∷ codes "3" ∷ []) ≡ None
unfolding number_of
three_numbers-two = refl

-- a reply of a number below 0, of several numbers, and of none
pub reply_text-minus : reply_text (Signed (negsuc 11)) ≡ codes "-12"
unfolding digits
reply_text-minus = refl

pub reply_text-numbers : reply_text (Numbers (4 ∷ 4 ∷ 19 ∷ [])) ≡ codes "4 4 19"
unfolding digits
reply_text-numbers = refl

pub reply_text-no_numbers : reply_text (Numbers []) ≡ []
reply_text-no_numbers = refl

-- numbers, a text with a space in it, and two bytes
pub pattern_of-mixed : pattern_of (codes " 7 \"a b\" 0x0Aff ") ≡ Some (7 ∷ 97 ∷ 32 ∷ 98 ∷ 10 ∷ 255 ∷ [])
unfolding number_of
pattern_of-mixed = refl

-- texts side by side, and an empty one
pub pattern_of-joined : pattern_of (codes "\"ab\"\"\"\"c\"") ≡ Some (codes "abc")
pattern_of-joined = refl

pub pattern_of-nothing : pattern_of [] ≡ Some []
pattern_of-nothing = refl

-- a text without a quote at its end, half of a byte, no byte, and a word that is no number
pub pattern_of-open : pattern_of (codes "\"ab") ≡ None
pattern_of-open = refl

pub pattern_of-half : pattern_of (codes "0x0") ≡ None
pattern_of-half = refl

pub pattern_of-no_byte : pattern_of (codes "0x") ≡ None
pattern_of-no_byte = refl

pub pattern_of-word : pattern_of (codes "\"a\"b") ≡ None
unfolding number_of
pattern_of-word = refl

pub number_and_pattern-3 : number_and_pattern (codes " 3 \"ab\"") ≡ Some (3, codes "ab")
unfolding number_of
number_and_pattern-3 = refl

pub number_and_pattern-nothing : number_and_pattern (codes " ") ≡ None
number_and_pattern-nothing = refl
