use Rattle.vers_cli.proofs.Names.{Some, None, sym, ap, ◌∙◌, option_and_then, words_in, all_numbers, posted_of}
use Rattle.vers_cli.proofs.Pairs.{documents_after, documents_after-end, documents_after-next, rising_counted}
use Rattle.vers_cli.proofs.documents.ascending_documents.Goals as goal

pub returns-then-not-admits : goal.returns-then-not-admits
returns-then-not-admits c =
    rising_counted (option_and_then posted_of (all_numbers (words_in c.args.arguments.now))) None (c.loop-last.invariant.after
    ∙ ap (documents_after c.loop-last.rise.len c.loop-last.rise.last) c.in-Some.ensures.pairs
    ∙ documents_after-next c.loop-last.rise.len c.loop-last.rise.last c.in-Some.last _ (option_and_then posted_of (all_numbers (words_in c.in-Some.others.now))) _ (sym c.if-not-admits.ensures))

pub returns-in-None : goal.returns-in-None
returns-in-None c =
    rising_counted (option_and_then posted_of (all_numbers (words_in c.args.arguments.now))) None (c.loop-last.invariant.after
    ∙ ap (documents_after c.loop-last.rise.len c.loop-last.rise.last) c.in_default.ensures.pairs
    ∙ documents_after-end c.loop-last.rise.len c.loop-last.rise.last _ None (sym c.no_arguments.ensures ∙ c.in-None.is))

pub returns-in-Some-no_arguments : goal.returns-in-Some-no_arguments
returns-in-Some-no_arguments c =
    rising_counted (option_and_then posted_of (all_numbers (words_in c.args.arguments.now))) (Some (c.loop-last.rise.len, c.loop-last.rise.last)) (c.loop-last.invariant.after
    ∙ ap (documents_after c.loop-last.rise.len c.loop-last.rise.last) c.in_default.ensures.pairs
    ∙ documents_after-end c.loop-last.rise.len c.loop-last.rise.last _ (Some tt) (sym c.no_arguments.ensures ∙ c.in-Some-no_arguments.is))
