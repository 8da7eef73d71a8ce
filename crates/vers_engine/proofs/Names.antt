-- The names of specs/ and of other crates that many proofs use.
pub use Rattle.std.proofs.Common.{Err, IfErr, List, None, Ok, OnErr, OnOk, Option, Result, Some, [], ap, append_assoc, arith, drop, false, inl, inr, length, refl, rules, sym, take, ℕ, ◌++◌, ◌-◌, ◌<◌, ◌==◌, ◌||◌, ◌∙◌, ◌∷◌, ◌≡◌, ◌≤◌}
pub use Rattle.std.proofs.lemmas.Bool.{eq-eqb, eqb-false, eqb-true, ne_eqb}
pub use Rattle.std.proofs.lemmas.Bool.Decides.{eqb_tells, nat_tests}
pub use Rattle.std.proofs.lemmas.List.{append-nil, length-drop, nil_from_length, take-append-drop, take_rest}
pub use Rattle.std.proofs.lemmas.Result.{err_from_is_err_and}
pub use Rattle.std.specs.Io.KnownBytes.{Appends, Consumes, IsAtEnd}
pub use Rattle.std.specs.List.{All, filter, position, slice_split}
pub use Rattle.vers_engine.specs.Answers.{Answering, AreLinesRead, BeginsAnswer, WrittenOf, answers_of, held_after}
pub use Rattle.vers_engine.specs.Lines.{front, last_element_or, lines_of, whole_lines}
pub use Rattle.vers_engine.specs.declared.engine.RunError.{RunError}
pub use Rattle.vers_engine.specs.declared.engine.RunError.TheVariants.{Memory, Read, Write}
pub use Rattle.vers_engine.specs.inside.Session.{AnswersOrStays, FinishesOrFails, IsSplit, StandsAt, TakesOrFails, TakesSome, ended_by}
pub use Rattle.vers_words.specs.Text.{has_bytes}
