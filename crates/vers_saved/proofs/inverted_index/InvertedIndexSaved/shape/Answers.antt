use Rattle.vers_saved.proofs.Names.{ap, subst, arith, length, sorted_words}
use Rattle.vers_saved.proofs.InvertedForms.{whole_inverted}
use Rattle.vers_saved.proofs.WordBytes.{AreWords}
use Rattle.vers_saved.proofs.inverted_index.InvertedIndexSaved.shape.Goals as goal

pub returns-clause-whole : goal.returns-clause-whole
returns-clause-whole g c =
    whole_inverted c.args.self.now c.pair_numbers.ensures.index (omega (arith, c.count_list-count.ensures.count, ap (λ m. length (sorted_words m)) c.pair_numbers.ensures.value))
    (subst (λ m. AreWords (sorted_words m)) c.pair_numbers.ensures.value c.count_list-count.ensures.fit)
