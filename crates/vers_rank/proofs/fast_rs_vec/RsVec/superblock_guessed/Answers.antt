use Rattle.vers_rank.proofs.Names.{arith, adds_then, digits_up}
use Rattle.vers_rank.proofs.fast_rs_vec.RsVec.superblock_guessed.Goals as goal

pub returns-then-count_at_superblock-r-clause-adds : goal.returns-then-count_at_superblock-r-clause-adds
returns-then-count_at_superblock-r-clause-adds g c = grind (arith, adds_then, digits_up)

pub returns-clause-adds : goal.returns-clause-adds
returns-clause-adds g c = grind (arith, adds_then, digits_up)
