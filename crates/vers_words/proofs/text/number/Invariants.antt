use Rattle.vers_words.proofs.Imports.{◌≡◌, ◌<◌, ◌^◌, take, true, list_all, is_ascii_digit, digits_value}
use Rattle.vers_words.proofs.text.number.Given as goal

abbrev pub invariant-loop-byte : goal.invariant-loop-byte
invariant-loop-byte l = record {
  value : l.value ≡ digits_value 10 (take l.byte-index l.word);
  digits : list_all is_ascii_digit (take l.byte-index l.word) ≡ true;
  fits : l.value < 2 ^ 64;
}
