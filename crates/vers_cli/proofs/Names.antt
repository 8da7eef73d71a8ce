-- The names of specs/ and of other crates that many proofs use.
pub use Rattle.std.proofs.Common.{Bool, Err, IfOk, List, None, Ok, Option, Result, Some, [], ap, arith, false, get_or, inl, inr, is_ok, length, map, nat_lt, refl, sym, true, ℕ, ◌%◌, ◌*◌, ◌++◌, ◌+◌, ◌-◌, ◌/◌, ◌<◌, ◌==◌, ◌^◌, ◌∙◌, ◌∷◌, ◌≡◌, ◌≤◌}
pub use Rattle.std.proofs.lemmas.Bool.{and_parts, eqb-true, le-leb, ltb-true, ne_eqb, or_cases}
pub use Rattle.std.proofs.lemmas.Iterator.Consumers.{YieldsList-from_first}
pub use Rattle.std.proofs.lemmas.List.{get_or-map, length-map, map-id}
pub use Rattle.std.proofs.lemmas.List.FromFn.{get_or-map-range_with_len, length-map-range_with_len}
pub use Rattle.std.proofs.lemmas.List.Sums.{AllPass-from_list_all}
pub use Rattle.std.proofs.lemmas.Option.{cond_some, same_Some}
pub use Rattle.std.specs.List.{list_all, range_with_len}
pub use Rattle.std.specs.Option.{option_and_then}
pub use Rattle.std.specs.Prelude.{All, MatchResult, if◌then◌else◌, nat_le, option_map, ◌&&◌, ◌||◌}
pub use Rattle.vers_bits.specs.Bits.{number, pack, part}
unfoldable pub use Rattle.vers_bits.specs.Bits.{part_number}
pub use Rattle.catalogue.specs.Structures.{SparseBits, SymbolList}
pub use Rattle.vers_cli.specs.Holding.{is_accepted}
pub use Rattle.vers_cli.specs.Loads.{first_numbers, first_then, if_admitted, in_order, posted_first, posted_of, rising_count, symbols_loaded}
pub use Rattle.vers_sorted.proofs.PublicLaws.{each_next-ascending, each_next-rising, ones_at-same}
pub use Rattle.vers_sorted.specs.Sorted.{each_next}
unfoldable pub use Rattle.vers_wavelet.specs.Makers.{low_symbols, packed_symbols}
pub use Rattle.vers_wavelet.specs.Symbols.{Symbols}
pub use Rattle.vers_words.specs.Arguments.{all_numbers, bits_of_digits, is_bit_digit}
pub use Rattle.vers_words.specs.Reply.{Numbers}
pub use Rattle.vers_words.specs.Text.{number_of, words_in}
pub use Rattle.vers_words.specs.declared.loading.Loading.TheVariants.{Accepted, Inadmissible}
