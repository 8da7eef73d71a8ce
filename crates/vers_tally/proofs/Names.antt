-- The names of specs/ and of other crates that many proofs use.
pub use Rattle.std.proofs.Common.{Err, List, None, Ok, Option, Result, Some, [], add-one, ap, arith, get_or, inl, inr, length, min, refl, reverse, slice_get, subst, suc, sym, take, true≢false, zero, ℕ, ◌*◌, ◌+◌, ◌-◌, ◌/◌, ◌<◌, ◌^◌, ◌∙◌, ◌∷◌, ◌≡◌, ◌≤◌}
pub use Rattle.std.proofs.lemmas.Bool.{cases_lt}
pub use Rattle.std.proofs.lemmas.Int.Digits.{all_below_base_digits_of, length-digits_of-le, length-digits_of_step, number_digits_of, number_lt}
pub use Rattle.std.proofs.lemmas.List.{get_or-reverse, length-drop, length-reverse, length-take}
pub use Rattle.std.proofs.lemmas.Option.{get_or_from_slice_get, slice_get-get_or, slice_get_past, slice_get_within}
pub use Rattle.std.specs.List.{Contains, last_or}
pub use Rattle.std.specs.Prelude.{All, IfOk, IfSome, IsSome, ◌↔◌}
pub use Rattle.vers_bits.proofs.PublicLaws.{all_items, ended, ended_back, gave, gave_back, goes_first, goes_last, last_is, length-items_in, yields_first, yields_last}
pub use Rattle.vers_tally.specs.Ends.{MakesNth, MakesNthBack, MayRefuse, Walking}
pub use Rattle.vers_tally.specs.Reads.{Adds, AddsAtMost, IsWithin, Reads, clog, digits, no_reads, plus}
