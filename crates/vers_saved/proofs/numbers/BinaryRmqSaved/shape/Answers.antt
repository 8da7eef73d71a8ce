use Rattle.vers_saved.proofs.Names.{arith}
use Rattle.vers_saved.proofs.WordLists.{whole_table}
use Rattle.vers_saved.proofs.numbers.BinaryRmqSaved.shape.Goals as goal

pub returns-clause-whole : goal.returns-clause-whole
returns-clause-whole g c = whole_table c.args.self.now (omega (arith, c.len.ensures.value, c.len.ensures.bounded)) (rw c.as_slice.ensures at c.are_words.ensures)
