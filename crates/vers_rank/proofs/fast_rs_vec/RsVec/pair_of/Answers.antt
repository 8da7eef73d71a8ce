use Rattle.vers_rank.proofs.Names.{select_past, ◌≡◌, ℕ, ◌+◌, ◌/◌, ◌<◌, ◌≤◌, ap, sym, ◌∙◌, arith, rules, count, length, adds_then, adds_weaker}
use Rattle.vers_rank.proofs.Pairs.{none_after, position_after}
use Rattle.vers_rank.proofs.Selects.{select_le}
use Rattle.vers_rank.proofs.fast_rs_vec.RsVec.pair_of.Goals as goal

pub returns-then-r-total : goal.returns-then-r-total
returns-then-r-total g c =
    let past = λ (n : ℕ) (h : c.args.r ≤ n). c.len-len.ensures.value ∙ sym (select_past c.args.bit c.args.self.now n (omega (arith, c.total-total.ensures, c.if-r-total.true))) in
    record {
      first = past c.args.r (omega arith);
      second = past (c.args.r + 1) (omega arith);
      within = search rules;
      counted = search rules;
      adds = adds_weaker c.add_rank_call.ensures.adds (search rules);
      near = search rules;
    }

pub overflow_mul-position : goal.overflow_mul-position
overflow_mul-position g c = omega (arith, select_le)

pub overflow_add-position : goal.overflow_add-position
overflow_add-position g c = omega (arith, select_le)

pub overflow_add-second : goal.overflow_add-second
overflow_add-second g c = omega (arith, select_le)

pub returns-then-number-r : goal.returns-then-number-r
returns-then-number-r g c =
    let known = c.loop-number.invariant in
    let is : c.loop-number.number ≡ c.args.r + 1 = omega arith in
    let second = rw is at c.locate-at.ensures.value in
    record {
      first = known.first_is c.if-number-r.true;
      second = second;
      within = (omega (arith, known.first_is c.if-number-r.true, select_le c.args.bit c.args.self.now c.args.r), omega (arith, second, select_le c.args.bit c.args.self.now (c.args.r + 1)));
      counted = search rules;
      adds = adds_then known.adds c.locate-at.ensures.adds (search rules);
      near = λ inside same. absurd (known.apart c.if-number-r.true (same ∙ ap (λ p. p / 64) second));
    }

pub returns-then-after-ne0 : goal.returns-then-after-ne0
returns-then-after-ne0 g c =
    let known = c.loop-number.invariant in
    let at = c.locate-at.ensures in
    let is : c.loop-number.number ≡ c.args.r = omega arith in
    let first = rw is at at.value in
    let word = rw at.word at c.marks.ensures in
    let after = rw word at c.if-after-ne0.true in
    record {
      first = first;
      second = c.min.ensures ∙ rw (c.len-len.ensures.value, word) (position_after c.args.bit c.args.self.now _ _ (omega (arith, after)) c.args.r (rw is at known.some) first);
      within = (omega (arith, first, select_le c.args.bit c.args.self.now c.args.r), omega (arith, c.min.ensures, c.len-len.ensures.value));
      counted = search rules;
      adds = adds_then known.adds at.adds (search rules);
      near = λ inside same. adds_then (known.begun c.if-number-r.false) at.adds (search rules);
    }

pub returns-then-number-total : goal.returns-then-number-total
returns-then-number-total g c =
    let known = c.loop-number.invariant in
    let at = c.locate-at.ensures in
    record {
      first = search rules;
      second = c.len-len.ensures.value ∙ sym (select_past c.args.bit c.args.self.now (c.args.r + 1) (omega (arith, c.total-total.ensures, c.if-number-total.true)));
      within = (omega (arith, at.value, select_le c.args.bit c.args.self.now c.loop-number.number), omega (arith, c.len-len.ensures.value));
      counted = search rules;
      adds = adds_then known.adds at.adds (search rules);
      near = λ inside same. adds_then (known.begun c.if-number-r.false) at.adds (search rules);
    }

pub loop-number-preserved : goal.loop-number-preserved
loop-number-preserved g c =
    let at = c.locate-at.ensures in
    let is : c.loop-number.number ≡ c.args.r = omega (arith, c.loop-number.invariant.from, c.if-number-r.false) in
    let position = rw is at at.value in
    let word = rw at.word at c.marks.ensures in
    let more : c.args.r + 1 < count c.args.bit c.args.self.now (length c.args.self.now) = omega (arith, c.total-total.ensures, c.if-number-total.false) in
    let begun = c.loop-number.invariant.begun (omega (arith, is)) in
    record {
      from = omega arith;
      to = omega arith;
      some = more;
      first_is = λ _. position;
      apart = λ _. none_after c.args.bit c.args.self.now c.args.r _ _ at.within.1 more position (rw word at c.if-after-ne0.false);
      counted = omega (arith, c.loop-number.invariant.counted, at.adds.rank_calls);
      begun = λ again. absurd (omega (arith, again));
      adds = adds_then begun at.adds (search rules);
    }
