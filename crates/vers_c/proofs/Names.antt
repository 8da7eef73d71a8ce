-- The names of specs/ and of other crates that proofs use.
pub use Rattle.core.proofs.alloc.Calls.{Fits, Goes-blank, handle_tells, token, α}
pub use Rattle.std.proofs.Common.{Bool, None, Option, Some, arith, false, get_or, length, lit<, map, set, slice_get, slice_set, take, take-add, true, ◌+◌, ◌-◌, ◌<◌, ◌≤◌}
pub use Rattle.std.proofs.lemmas.List.{append_assoc, drop-drop, drop_at, drop_more, get_or-map, get_or_at, length-map, length-take-le, map-append, map_more, map_push, take_at, take_more_set}
pub use Rattle.std.proofs.lemmas.List.Edits.{map_over_more}
pub use Rattle.std.proofs.lemmas.Option.{slice_get_past}
pub use Rattle.std.proofs.lemmas.Simd.{map-map}
pub use Rattle.std.specs.Prelude.{Err, IfOk, Ok, Result, if◌then◌else◌, nat_le, option_and_then, slice_range, ◌&&◌}
pub use Rattle.std.specs.contracts.impls.GlobalAllocator.TheImpl.{dict, ghosts}
pub use Rattle.std_alloc.proofs.BoxSteps.Form.{B, Bx, D, P, R, args, box_ty, box_typed, handle, owning, word, τ}
pub use Rattle.std_alloc.proofs.BoxSteps.Steps.{box_in, box_out}
pub use Rattle.std_alloc.proofs.ResultValues.{and_tt}
pub use Rattle.std_alloc.specs.Box.Ownership.{box_owns}
pub use Rattle.vers_bits.specs.Bits.{positions, select}
pub use Rattle.catalogue.specs.Answers.{found_or_absent, value_or}
pub use Rattle.vers_c.specs.Batches.{asked, answered_row}
pub use Rattle.catalogue.specs.SymbolsAnswers.{if_numbers}
pub use Rattle.vers_sorted.proofs.PublicLaws.{ones_at-same}
pub use Rattle.vers_sorted.specs.Ones.{ones_at}
pub use Rattle.vers_sorted.specs.Sorted.{below, greatest_not_above, least_not_below}
pub use Rattle.vers_wavelet.specs.Numbers.{low_bits_of, position_from, positions_of, rank_before}
pub use Rattle.vers_wavelet.specs.Symbols.{Symbols, by_size, occurrences}
unfoldable pub use Rattle.vers_wavelet.specs.Symbols.{as_word, kth_by_size, range_elements}
pub use base.Fml.{flft, fsep, ftrue}
pub use base.Logic.{SProp, emp, ent, fst∗, id⊢, never}
pub use borrow.Rule.Slice.PartMut.{put_mid}
pub use contract.BorrowLft.{◌⊑◌}
pub use contract.Monad.{Fun, fact}
pub use contract.Running.{tables}
unfoldable pub use contract.Running.{tables_of}
pub use denote.Exit.{no, yes}
pub use denote.Param.{bounded}
pub use denote.RattleType.{RattleType, Valss}
pub use denote.RawPtr.{Ptr, RawPtr, block_ptr, in_a_block, null_ptr, ptr_val}
pub use denote.Signature.{Slot, plain, type_at}
pub use denote.Steps.{heard, nothing, only}
pub use denote.Struct.Owning.{shape}
pub use denote.Struct.Struct.{within}
pub use denote.Struct.Tuple.{Tuple}
pub use denote.Triple.Call.{calls_at, calls_at_last}
pub use denote.Triple.Clauses.{Clauses, Ended}
pub use denote.Triple.Spec.{triple_of}
pub use denote.Triple.Statement.{Contract, Triple}
pub use denote.Triple.Table.{entered}
pub use denote.Triple.Walked.{Goes-dropped, Stays, ends_at, says, stay_dropped, walk_Meets, walk_of}
pub use lib.Dec.{T}
pub use mir.MapTy.{inst_fn}
pub use mir.Syntax.{Args, Body, Dict, Fn, a_type, assign, copy, dcons, dnil, impl, place, return, rv_opd, seq, tnil}
pub use mir.Val.{Val, WT, has_ty, of_list, vcons, vnil, vnull, vptr, vstruct}
pub use prog.Memory.{Memory}
pub use prog.Routine.{Routine}
pub use prog.Wp.{Tables, WpFn}
pub use seplogic.Ra.Ura.{Ura}
pub use sound.WpLaws.{WpFn-mono, fm_of}
pub use types.ByLocal.{alloc_all, env, free_all, get, get_in, lands_as, lands_last, look_at, pass_all, sets}
pub use types.Kit.{ !, Goal, Item, Seq, at_ret, await, by, done, feq_i, feq_l, fjoin, fpack, fpick, fsplit, join, later, move, pick, qed, raw, rewrite, some, split, split3, suffices, use1, ‵, ◌$◌, ◌∵◌, ◌⊛◌}
pub use types.Logic.{Logic, sem}
pub use types.Part.{agg, sub, whole}
pub use types.Run.{and_then, blocks, enter, exec, first, fld, lit, no_more, of_opd, returns, stop}
