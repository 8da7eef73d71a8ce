use Rattle.std.proofs.Common.{◌-◌, length}
use Rattle.vers_c.proofs.Counted.{Groups}
use Rattle.vers_c.proofs.counts.count_groups.Given as goal

abbrev pub invariant-loop-first : goal.invariant-loop-first
invariant-loop-first l = Groups l.text.items l.symbols l.fn.ends l.ends l.first l.start

abbrev pub decreases-loop-first : goal.decreases-loop-first
decreases-loop-first l = length l.initial.ends - l.first
