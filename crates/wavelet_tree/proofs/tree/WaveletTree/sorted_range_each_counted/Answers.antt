use Rattle.wavelet_tree.proofs.Names.{◌+◌, ◌<◌, ◌∙◌, length, sym, subst, arith, rules, get_or_default, adds_then, no_reads, only_nodes, times, plus, word_rank_reads, Symbols, IsTreeOf, RangeQuery, HasRanks, IsAnswered, ltb-false}
use Rattle.wavelet_tree.proofs.Batches.{one_more, one_stays, all_done, all_asked, begins_asked, query_inside, gets_ranks, leaf_ranks, leaf_turns, ranks_inside, turns_below, finished, none_walks, no_fork_left, or_none, leaf_more, leaf_kept}
use Rattle.wavelet_tree.proofs.tree.WaveletTree.sorted_range_each_counted.Goals.{then-query-lt-LEAVES, else-query-lt-LEAVES, then-query-lt-LEAVES-2, else-query-lt-LEAVES-2}
use Rattle.wavelet_tree.proofs.tree.WaveletTree.sorted_range_each_counted.Goals as goal

pub loop-k-init : goal.loop-k-init
loop-k-init g c = all_asked c.args.self.now.items c.args.queries.now c.args.tally.now (λ i q within. c.requires i q within)

pub loop-k-preserved : goal.loop-k-preserved
loop-k-preserved g c =
    let is = subst (λ (s : Symbols). IsTreeOf s c.self.inside.starts c.self.inside.nodes c.self.inside.bits c.self.inside.root c.self.inside.width c.self.inside.len) c.self.view_is c.self.invariant in
    let less : c.loop-k.k < length c.loop-k.queries = omega (arith, c.loop-k-test.true) in
    one_more _ c.begin.result _ c.loop-k.invariant less (get_or_default _ _ _ _ less) c.begin.ensures.adds (λ a own asked. begins_asked is a _ c.begin.result own asked c.begin.ensures.begun)

pub loop-init : goal.loop-init
loop-init g c = all_done c.loop-k.invariant (omega (arith, c.loop-k-test.false))

pub get_and_rank1_counted-start_ones-requires : goal.get_and_rank1_counted-start_ones-requires
get_and_rank1_counted-start_ones-requires g c =
    let is = subst (λ (s : Symbols). IsTreeOf s c.self.inside.starts c.self.inside.nodes c.self.inside.bits c.self.inside.root c.self.inside.width c.self.inside.len) c.self.view_is c.self.invariant in
    let are = c.loop-k-2.invariant in
    (query_inside is c.loop.counter _ _ _ c.if-query-lt-LEAVES.true (are.others c.loop-k-2.k _ no_reads (omega arith) (omega (arith, c.loop-k-2-test.true, are.long)))).0

pub get_and_rank1_counted-end_ones-requires : goal.get_and_rank1_counted-end_ones-requires
get_and_rank1_counted-end_ones-requires g c =
    let is = subst (λ (s : Symbols). IsTreeOf s c.self.inside.starts c.self.inside.nodes c.self.inside.bits c.self.inside.root c.self.inside.width c.self.inside.len) c.self.view_is c.self.invariant in
    let are = c.loop-k-2.invariant in
    (query_inside is c.loop.counter _ _ _ c.if-query-lt-LEAVES.true (are.others c.loop-k-2.k _ no_reads (omega arith) (omega (arith, c.loop-k-2-test.true, are.long)))).1

pub loop-k-2-preserved : goal.loop-k-2-preserved
loop-k-2-preserved g c =
    let is = subst (λ (s : Symbols). IsTreeOf s c.self.inside.starts c.self.inside.nodes c.self.inside.bits c.self.inside.root c.self.inside.width c.self.inside.len) c.self.view_is c.self.invariant in
    let less : c.loop-k-2.k < length c.loop-k-2.queries = omega (arith, c.loop-k-2-test.true) in
    elim c.if-query-lt-LEAVES.branch [
      | then-query-lt-LEAVES w ↦
          rw (w.queries-is, w.tally-is)
          (one_more _ w.ranked.result (times 2 word_rank_reads) c.loop-k-2.invariant less (get_or_default _ _ _ _ less)
          (adds_then w.get_and_rank1_counted-start_ones.ensures.adds w.get_and_rank1_counted-end_ones.ensures.adds (search rules))
          (λ a own has. subst (λ (x : RangeQuery). HasRanks c.args.self.now c.self.inside.starts c.self.inside.nodes c.self.inside.bits c.loop.counter a x (plus own (times 2 word_rank_reads))) (sym w.ranked.ensures)
          (gets_ranks is c.loop.counter a _ own _ _ w.if-query-lt-LEAVES.true w.get_and_rank1_counted-start_ones.ensures.ones w.get_and_rank1_counted-end_ones.ensures.ones has)))
      | else-query-lt-LEAVES w ↦
          rw (w.queries-is, w.tally-is)
          (one_stays _ c.loop-k-2.invariant less (get_or_default _ _ _ _ less) (λ a own has. leaf_ranks is c.loop.counter a _ own w.if-query-lt-LEAVES.false has))
    ]

pub loop-k-3-init : goal.loop-k-3-init
loop-k-3-init g c = record { are = all_done c.loop-k-2.invariant (omega (arith, c.loop-k-2-test.false)); none = λ none i q below. absurd (omega (arith, below)) }

pub read-node-requires : goal.read-node-requires
read-node-requires g c =
    let is = subst (λ (s : Symbols). IsTreeOf s c.self.inside.starts c.self.inside.nodes c.self.inside.bits c.self.inside.root c.self.inside.width c.self.inside.len) c.self.view_is c.self.invariant in
    let are = c.loop-k-3.invariant.are in
    (ranks_inside is c.loop.counter _ _ _ c.if-query-lt-LEAVES-2.true (are.others c.loop-k-3.k _ no_reads (omega arith) (omega (arith, c.loop-k-3-test.true, are.long)))).0

pub below-next-requires-clause-start : goal.below-next-requires-clause-start
below-next-requires-clause-start g c =
    let is = subst (λ (s : Symbols). IsTreeOf s c.self.inside.starts c.self.inside.nodes c.self.inside.bits c.self.inside.root c.self.inside.width c.self.inside.len) c.self.view_is c.self.invariant in
    let are = c.loop-k-3.invariant.are in
    (ranks_inside is c.loop.counter _ _ _ c.if-query-lt-LEAVES-2.true (are.others c.loop-k-3.k _ no_reads (omega arith) (omega (arith, c.loop-k-3-test.true, are.long)))).1

pub below-next-requires-clause-end : goal.below-next-requires-clause-end
below-next-requires-clause-end g c =
    let is = subst (λ (s : Symbols). IsTreeOf s c.self.inside.starts c.self.inside.nodes c.self.inside.bits c.self.inside.root c.self.inside.width c.self.inside.len) c.self.view_is c.self.invariant in
    let are = c.loop-k-3.invariant.are in
    (ranks_inside is c.loop.counter _ _ _ c.if-query-lt-LEAVES-2.true (are.others c.loop-k-3.k _ no_reads (omega arith) (omega (arith, c.loop-k-3-test.true, are.long)))).2

pub loop-k-3-preserved : goal.loop-k-3-preserved
loop-k-3-preserved g c =
    let is = subst (λ (s : Symbols). IsTreeOf s c.self.inside.starts c.self.inside.nodes c.self.inside.bits c.self.inside.root c.self.inside.width c.self.inside.len) c.self.view_is c.self.invariant in
    let less : c.loop-k-3.k < length c.loop-k-3.queries = omega (arith, c.loop-k-3-test.true) in
    elim c.if-query-lt-LEAVES-2.branch [
      | then-query-lt-LEAVES-2 w ↦ record {
        are = rw (w.queries-is, w.tally-is)
            (one_more _ w.below-next.result (only_nodes 1) c.loop-k-3.invariant.are less (get_or_default _ _ _ _ less) w.read-node.ensures.adds
            (λ a own has. turns_below is c.loop.counter a _ w.below-next.result own w.read-node.result w.if-query-lt-LEAVES-2.true (record {
              read = w.read-node.ensures.value;
              symbol = w.below-next.ensures.symbol;
              high_start = w.below-next.ensures.high_start;
              low_start = w.below-next.ensures.low_start;
              high_end = w.below-next.ensures.high_end;
              low_end = w.below-next.ensures.low_end;
              high_link = w.below-next.ensures.high_link;
              low_link = w.below-next.ensures.low_link;
            }) has));
        none = λ none.
            let both = or_none _ _ (sym w.is_any-is ∙ none) in
            rw (w.queries-is) (leaf_more _ _ w.below-next.result less (ltb-false _ _ both.1) (c.loop-k-3.invariant.none both.0));
      }
      | else-query-lt-LEAVES-2 w ↦ record {
        are = rw (w.queries-is, w.tally-is)
            (one_stays _ c.loop-k-3.invariant.are less (get_or_default _ _ _ _ less) (λ a own has. leaf_turns is c.loop.counter a _ own w.if-query-lt-LEAVES-2.false has));
        none = λ none. rw (w.queries-is) (leaf_kept _ _ _ w.if-query-lt-LEAVES-2.false (c.loop-k-3.invariant.none (sym w.is_any-is ∙ none)));
      }
    ]

pub loop-preserved : goal.loop-preserved
loop-preserved g c = all_done c.loop-k-3.invariant.are (omega (arith, c.loop-k-3-test.false))

pub returns-then-not-is_any-clause-each : goal.returns-then-not-is_any-clause-each
returns-then-not-is_any-clause-each g c =
    (finished c.args.self.now c.args.queries.now c.loop-k-3.queries (none_walks {turn = c.loop.counter + 1} {Later = IsAnswered c.args.self.now} (all_done c.loop-k-3.invariant.are (omega (arith, c.loop-k-3-test.false)))
    (λ i q within. c.loop-k-3.invariant.none c.if-not-is_any.true i q (omega (arith, within, c.loop-k-3-test.false)) within))).0

pub returns-then-not-is_any-clause-adds : goal.returns-then-not-is_any-clause-adds
returns-then-not-is_any-clause-adds g c =
    (finished c.args.self.now c.args.queries.now c.loop-k-3.queries (none_walks {turn = c.loop.counter + 1} {Later = IsAnswered c.args.self.now} (all_done c.loop-k-3.invariant.are (omega (arith, c.loop-k-3-test.false)))
    (λ i q within. c.loop-k-3.invariant.none c.if-not-is_any.true i q (omega (arith, within, c.loop-k-3-test.false)) within))).1

pub returns-clause-each : goal.returns-clause-each
returns-clause-each g c = (finished c.args.self.now c.args.queries.now c.loop.queries (no_fork_left (omega (arith, c.loop-test.false, c.loop.auto.counter-end)) c.loop.invariant)).0

pub returns-clause-adds : goal.returns-clause-adds
returns-clause-adds g c = (finished c.args.self.now c.args.queries.now c.loop.queries (no_fork_left (omega (arith, c.loop-test.false, c.loop.auto.counter-end)) c.loop.invariant)).1
