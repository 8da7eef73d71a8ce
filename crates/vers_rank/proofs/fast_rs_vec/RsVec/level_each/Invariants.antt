use Rattle.vers_rank.proofs.Names.{AddsAtMost, times, superblock_count, length, Changed}
use Rattle.vers_rank.proofs.fast_rs_vec.RsVec.level_each.Given as goal

abbrev pub invariant-loop-j : goal.invariant-loop-j
invariant-loop-j g l = record {
  changed : Changed 0 (g.L.Level.gives l.bit l.self) l.from l.j l.fn.numbers l.numbers;
  adds : AddsAtMost l.fn.tally l.tally (times l.j (g.L.Level.reads (superblock_count (length l.self))));
}
