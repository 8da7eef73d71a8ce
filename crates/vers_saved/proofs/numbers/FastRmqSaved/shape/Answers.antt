use Rattle.vers_saved.proofs.Names.{arith}
use Rattle.vers_saved.proofs.WordLists.{whole_blocks}
use Rattle.vers_saved.proofs.numbers.FastRmqSaved.shape.Goals as goal

pub returns-clause-whole : goal.returns-clause-whole
returns-clause-whole g c = whole_blocks c.args.self.now (omega (arith, c.len.ensures.value, c.len.ensures.bounded)) (rw c.as_slice.ensures at c.are_words.ensures)
