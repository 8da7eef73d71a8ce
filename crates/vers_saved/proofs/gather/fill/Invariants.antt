use Rattle.vers_saved.proofs.Names.{◌-◌, ◌≤◌, length, take, Consumes}
use Rattle.vers_saved.proofs.gather.fill.Given as goal

-- what was read is at the front of the block
abbrev pub invariant-loop-filled : goal.invariant-loop-filled
invariant-loop-filled g l =
    (l.filled ≤ length l.block) × Consumes (g.R.Read.remaining l.initial.reader) (g.R.Read.remaining l.reader) (take l.filled l.block)

abbrev pub decreases-loop-filled : goal.decreases-loop-filled
decreases-loop-filled g l = length l.block - l.filled
