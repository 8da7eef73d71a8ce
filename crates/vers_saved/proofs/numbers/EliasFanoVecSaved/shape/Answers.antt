use Rattle.vers_saved.proofs.Names.{arith}
use Rattle.vers_saved.proofs.SortedForms.{too_long, whole_sorted}
use Rattle.vers_saved.proofs.numbers.EliasFanoVecSaved.shape.Goals as goal

pub returns-clause-whole : goal.returns-clause-whole
returns-clause-whole g c = whole_sorted c.args.self.now (omega (arith, c.count_list-count.ensures.count)) c.count_list-count.ensures.fit c.count_list-count.ensures.ascending
