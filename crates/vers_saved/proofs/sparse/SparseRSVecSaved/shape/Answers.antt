use Rattle.vers_saved.proofs.Names.{ap, subst, arith, length, sorted_words}
use Rattle.vers_saved.proofs.SortedForms.{whole_sparse}
use Rattle.vers_saved.proofs.WordBytes.{AreWords}
use Rattle.vers_saved.proofs.sparse.SparseRSVecSaved.shape.Goals as goal

pub returns-clause-whole : goal.returns-clause-whole
returns-clause-whole g c =
    whole_sparse c.args.self.now (omega (arith, c.len.ensures)) (omega (arith, c.count_list-count.ensures.count, ap (λ m. length (sorted_words m)) c.ones.ensures)) (subst (λ m. AreWords (sorted_words m)) c.ones.ensures c.count_list-count.ensures.fit)
