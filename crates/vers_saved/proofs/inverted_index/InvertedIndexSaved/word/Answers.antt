use Rattle.vers_saved.proofs.Names.{◌-◌, ◌∙◌, ap, get_or, sorted_words}
use Rattle.vers_saved.proofs.InvertedForms.{inverted_word}
use Rattle.vers_saved.proofs.inverted_index.InvertedIndexSaved.word.Goals as goal

pub returns : goal.returns
returns g c =
    inverted_word c.args.self.now c.args.k c.list_word.result c.if-k-eq0.false c.if-k-eq1.false
    (c.list_word.ensures ∙ ap (λ m. get_or (sorted_words m) (c.args.k - 2) 0) c.pair_numbers.ensures.value)
