-- The names of specs/ and of other crates that proofs use.
pub use Rattle.std.proofs.Common.{append-nil, Bool, List, Option, Some, [], ap, arith, cond, drop, eqb, false, get_or, inl, inr, leb, length, ltb, map, max, min, not, refl, replicate, rules, set, subst, suc, sym, take, true, true≢false, zero, ℕ, ◌%◌, ◌/◌, ◌&&◌, ◌*◌, ◌++◌, ◌+◌, ◌-◌, ◌<◌, ◌^◌, ◌∙◌, ◌∷◌, ◌≡◌, ◌≢◌, ◌≤◌, ◌||◌}
pub use Rattle.std.proofs.Math.Nat.{div-eq_of_lt, lt-div-mul-add, mod-eq_of_lt, pow-le-pow_right}
pub use Rattle.std.proofs.lemmas.Nat.{one_shl, pow_pos}
pub use Rattle.std.proofs.Math.Seq.{drop-cons}
pub use Rattle.std.proofs.lemmas.Bool.{and_left, cases_Bool, cases_eq, cases_lt, eq-eqb, eqb-false, eqb-true, false_from_ne_true, false≢true, le-leb, le-ltb, leb-false, leb-true, lt-leb, lt-ltb, ltb-false, ltb-true, ne_eqb}
pub use Rattle.std.proofs.lemmas.Bool.Decides.{nat_tests}
pub use Rattle.std.proofs.lemmas.Grind.{common_steps}
pub use Rattle.std.proofs.lemmas.List.{append_assoc, get_or-replicate, length-replicate, drop-append-le, drop-drop, drop-take, drop_all, get_or-append-add, get_or-append_right, get_or-drop, get_or-map, get_or-set_other, get_or-set_same, get_or-take, get_or_append_left, get_or_at, get_or_default, length-append, length-drop, length-map, length-set, length-take, map-append, map-id, nil_from_length, same_lists, take-append-drop, take-append-le, take-map, take-take, take_all, take_at, take_more}
pub use Rattle.std.proofs.lemmas.List.Elements.{All-append, All-filter, All-contains, All-map, All-push, All-same, All-take, filter-append}
pub use Rattle.std.proofs.lemmas.List.Filters.{length-filter_both, sum_by-filter_both}
pub use Rattle.std.proofs.lemmas.List.FromFn.{get_or-map-range_with_len, get_or-range_with_len, length-map-range_with_len, length-range_with_len}
pub use Rattle.std.proofs.lemmas.List.Sums.{count_by-le-length, get_or-le-sum_by, length-filter, sum_by-append, sum_by-cons, sum_by-le-sum_by, sum_by-take-le, sum_by_more}
pub use Rattle.std.specs.List.{count_by, range_with_len, sum_by}
pub use Rattle.std.specs.Prelude.{All, filter, slice_index, slice_index_or, ◌⊎◌}
pub use Rattle.word_rank.specs.Ranks.{word_rank_reads}
pub use Rattle.vers_wavelet.specs.Batches.{Become}
pub use Rattle.vers_bits.proofs.PublicLaws.{count_le, count_up, limb_gathered, number_below, bit_value_le, byte_value}
pub use Rattle.vers_bits.specs.Bits.{bit_value, is_bit, number, part}
unfoldable pub use Rattle.vers_bits.specs.Bits.{count, limb}
pub use Rattle.vers_tally.proofs.PublicLaws.{adds_nothing, adds_then, adds_weaker, within_itself}
pub use Rattle.vers_tally.specs.Reads.{AddsAtMost, IsWithin, Reads, no_reads, only_items, only_nodes, times, plus}
pub use Rattle.vers_wavelet.specs.Symbols.{Symbols}
pub use Rattle.wavelet_tree.specs.Trees.{HasParts, Tree, bits_in_tree, lesser, starts_of, nearer, tree_of}
unfoldable pub use Rattle.wavelet_tree.specs.Trees.{half_from, split, balanced, depth, forks, height, tree_bits}
pub use Rattle.wavelet_tree.specs.Trees.Tree.{leaf, fork}
pub use Rattle.wavelet_tree.specs.Queries.{access_fork_reads, access_reads, symbol_rank_reads, fork_reads, occurring, sorted_position, walk_reads, bit_count, tree_size, IsSortedRange, query_reads}
unfoldable pub use Rattle.wavelet_tree.specs.Queries.{sum_reads}
pub use Rattle.wavelet_tree.specs.inside.Nodes.{shift, link, entry, lows, highs, weight, IsFork, Stands, no_node, symbols_in, IsTreeOf, Walks, WalksIn}
unfoldable pub use Rattle.wavelet_tree.specs.inside.Nodes.{led}
pub use Rattle.wavelet_tree.specs.inside.Batches.{AreAll, AreUpTo, HasRanks, HasTurned, IsAnswered, IsAsked, IsAtRoot, IsRanked, IsWalking, first_reads}
pub use Rattle.wavelet_tree.specs.inside.Rebuilding.{AreForksOf, BitsAt, HasBitsAt, Rebuilds, RebuildsTree}
pub use Rattle.wavelet_tree.specs.inside.Growing.{CountsWithin, GrowsTree, Grows, AreForks, StartsUpTo}
pub use Rattle.wavelet_tree.specs.declared.node.Node.{Node}
pub use Rattle.wavelet_tree.specs.declared.node.TheConstants.{LEAVES}
pub use Rattle.wavelet_tree.specs.declared.batch.RangeQuery.{RangeQuery}
