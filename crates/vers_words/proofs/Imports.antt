-- The names of specs/ and of other crates that many proofs use.
pub use Rattle.std.proofs.Common.{Bool, Bor, Err, List, None, Ok, OnOk, Option, Result, Some, [], ap, append_assoc, arith, bytes_eq, decimal, drop, false, find, get_or, inl, inr, is_ok, length, map, neg_ℤ, negsuc, not, pos, refl, set, suc, sym, take, true, unwrap_or, zero, ℕ, ℤ, ◌%◌, ◌*◌, ◌++◌, ◌+ℤ◌, ◌+◌, ◌-ℤ◌, ◌-◌, ◌/◌, ◌<◌, ◌==◌, ◌^◌, ◌∙◌, ◌∷◌, ◌≡◌, ◌≤◌}
pub use Rattle.std.proofs.lemmas.Bool.{cases_lt, eqb-true, le-leb, le-ltb, lt-leb, lt-ltb, ne_eqb}
pub use Rattle.std.proofs.lemmas.Bool.Decides.{eqb_tells, nat_tests}
pub use Rattle.std.proofs.lemmas.Int.{ints}
pub use Rattle.std.proofs.lemmas.List.{append-nil, drop-set, drop_all, drop_more, get_or-drop, get_or-take, length-drop, length-set, length-take, length_push, nil_from_length, take-append-drop, take_all, take_at, take_more, take_rest}
pub use Rattle.std.proofs.lemmas.List.Quantifiers.{position-Some}
pub use Rattle.std.specs.Char.{is_ascii_digit}
pub use Rattle.std.specs.List.{All, filter, flat_map, list_all, position, position_or_len, slice_split}
pub use Rattle.std.specs.Prelude.{FitsSigned, if◌then◌else◌, option_and_then, option_map}
pub use Rattle.std.specs.Str.Parse.{digits_value}
pub use Rattle.vers_words.specs.Arguments.{all_numbers}
pub use Rattle.vers_words.specs.Text.{after_spaces, first_word, has_bytes, split_at_space, with_sign, words_in}
unfoldable pub use Rattle.vers_words.specs.Text.{number_of, signed_number_of}
