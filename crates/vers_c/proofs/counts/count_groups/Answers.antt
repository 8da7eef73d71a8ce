use Rattle.std.proofs.Common.{◌≡◌, ◌+◌, ◌-◌, arith}
use Rattle.vers_c.proofs.Counted.{group_ends, group_more}
use Rattle.vers_c.proofs.counts.count_groups.Goals as goal

pub loop-first-preserved : goal.loop-first-preserved
loop-first-preserved c =
    let before = c.loop-first.invariant in
    let size : c.loop-first.first + c.min-count.result - c.loop-first.first ≡ c.min-count.result = omega arith in
    group_more c.args.text.now.items c.args.symbols.now c.args.ends.now c.loop-first.ends c.count_group.new.ends c.loop-first.first c.min-count.result _ c.loop-first.start
    size (omega (arith, c.min-count.ensures, c.loop-first-test.true)) (omega (arith, c.min-count.ensures, c.loop-first-test.true)) before c.count_group.ensures

pub count_group-requires-clause-ends : goal.count_group-requires-clause-ends
count_group-requires-clause-ends c =
    let size : c.loop-first.first + c.min-count.result - c.loop-first.first ≡ c.min-count.result = omega arith in
    group_ends _ c.min-count.result _ size (omega (arith, c.min-count.ensures, c.loop-first-test.true)) c.loop-first.invariant c.requires
