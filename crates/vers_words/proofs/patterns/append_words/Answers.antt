use Rattle.vers_words.proofs.Imports.{Some, sym, ap, ◌∙◌, words_in}
use Rattle.vers_words.proofs.Quotes.{if_done, joined-assoc}
use Rattle.vers_words.specs.Patterns.{joined, word_symbols, words_symbols}
use Rattle.vers_words.proofs.patterns.append_words.Goals as goal

pub loop-word-preserved : goal.loop-word-preserved
loop-word-preserved g c =
    let symbols = c.loop-word.symbols.items in
    let first = word_symbols c.in-Some.word.now in
    let others = words_symbols (words_in c.in-Some.others.now) in
    c.loop-word.invariant
    ∙ ap (λ words. joined (Some symbols) (words_symbols words)) c.in-Some.ensures.words
    ∙ joined-assoc symbols first others
    ∙ ap (λ start. joined start others) (sym (if_done _ _ _ c.if-is_none.ensures c.in_ok-append_word.ensures))
