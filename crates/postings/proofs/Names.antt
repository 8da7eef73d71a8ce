-- The names of specs/ and of other crates that many proofs use.
pub use Rattle.postings.specs.Posted.{ArePaired, Posted, lookups}
unfoldable pub use Rattle.postings.specs.Posted.{cheapest, common, positions_between}
pub use Rattle.std.proofs.Common.{All, Bool, Fits, List, None, Some, [], ap, arith, cond, drop, false, get_or, inl, inr, length, refl, rules, subst, suc, sym, take, true, w64, zero, ℕ, ◌*◌, ◌++◌, ◌+◌, ◌-◌, ◌<◌, ◌∙◌, ◌∷◌, ◌≡◌, ◌≤◌}
pub use Rattle.std.proofs.lemmas.Bool.{cases_lt, le-leb, lt-leb}
pub use Rattle.std.proofs.lemmas.List.{append-nil, get_or-drop, get_or_default, length-drop}
pub use Rattle.std.proofs.lemmas.Option.{get_or_from_slice_get, none-some, slice_get-get_or}
pub use Rattle.std.specs.List.{AllPairs, range_with_len}
pub use Rattle.std.specs.List.Sorted.{IsNonDecreasing, IsStrictlyIncreasing}
pub use Rattle.std.specs.Prelude.{filter, if◌then◌else◌, nat_le, slice_get, slice_index, ◌&&◌}
pub use Rattle.vers_sorted.proofs.PublicLaws.{below_after, below_before, below_le}
pub use Rattle.vers_tally.specs.Reads.{AddsAtMost, IsWithin, Reads, plus, times}
