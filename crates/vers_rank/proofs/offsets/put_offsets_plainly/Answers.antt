use Rattle.vers_rank.proofs.OffsetLanes.{none_listed, one_listed}
use Rattle.vers_rank.proofs.offsets.put_offsets_plainly.Goals as goal

pub loop-i-preserved-then-word-i-eq1 : goal.loop-i-preserved-then-word-i-eq1
loop-i-preserved-then-word-i-eq1 c = one_listed c.args.word c.args.n c.loop-i.i c.loop-i.held c.loop-i.offsets c.loop-i-test.true c.loop-i.invariant c.requires c.if-word-i-eq1.true

pub loop-i-preserved : goal.loop-i-preserved
loop-i-preserved c = none_listed c.args.word c.args.n c.loop-i.i c.loop-i.held c.loop-i.offsets c.loop-i-test.true c.loop-i.invariant c.if-word-i-eq1.false
