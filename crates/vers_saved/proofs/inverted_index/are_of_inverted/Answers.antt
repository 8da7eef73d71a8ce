use Rattle.vers_saved.proofs.Names.{◌∙◌, true, ap, arith, sym, drop, take, eq-eqb, length-take, are_of_list}
use Rattle.vers_saved.proofs.InvertedForms.{inverted_tested, short_inverted}
use Rattle.vers_saved.proofs.inverted_index.are_of_inverted.Goals as goal

pub returns-then-n : goal.returns-then-n
returns-then-n g c =
    short_inverted (take c.args.n (drop c.args.from (g.W.Words.words c.args.words.now))) (omega (arith, c.if-n.true, length-take c.args.n (drop c.args.from (g.W.Words.words c.args.words.now))))

pub returns-then-count-eq0 : goal.returns-then-count-eq0
returns-then-count-eq0 g c =
    let tested = inverted_tested (g.W.Words.words c.args.words.now) c.args.from c.args.n c.word.result c.word-2.result c.in-Some.end c.word-count.result c.word-last.result (omega (arith, c.if-n.false)) c.word.ensures c.word-2.ensures
    c.in-Some.ensures.0 c.in-Some.ensures.1 (ap (are_of_list true) (sym c.new.ensures) ∙ sym c.are_of_list.ensures ∙ c.if-not-are_of_list.false) c.word-count.ensures c.word-last.ensures in
    eq-eqb c.word-count.result 0 c.if-count-eq0.true ∙ tested.0 c.if-count-eq0.true

pub returns-else-count-eq0 : goal.returns-else-count-eq0
returns-else-count-eq0 g c =
    let tested = inverted_tested (g.W.Words.words c.args.words.now) c.args.from c.args.n c.word.result c.word-2.result c.in-Some.end c.word-count.result c.word-last.result (omega (arith, c.if-n.false)) c.word.ensures c.word-2.ensures
    c.in-Some.ensures.0 c.in-Some.ensures.1 (ap (are_of_list true) (sym c.new.ensures) ∙ sym c.are_of_list.ensures ∙ c.if-not-are_of_list.false) c.word-count.ensures c.word-last.ensures in
    tested.1 c.if-count-eq0.false
