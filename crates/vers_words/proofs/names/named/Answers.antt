use Rattle.vers_words.proofs.Imports.{option_map, sym, ap, ◌∙◌}
use Rattle.vers_words.proofs.Tables.{named-entry}
use Rattle.vers_words.proofs.names.named.Goals as goal

pub returns-in_err-name : goal.returns-in_err-name
returns-in_err-name g c =
    let found = sym c.entry_of.ensures ∙ ap (option_map (λ entry. entry.now)) c.in_err-name.was in
    c.from_residual.ensures ∙ ap (option_map (λ entry. entry.1)) (sym found) ∙ named-entry c.args.table.now c.args.word.now

pub returns : goal.returns
returns g c =
    let found = sym c.entry_of.ensures ∙ ap (option_map (λ entry. entry.now)) c.in_ok-name.was in
    ap (option_map (λ entry. entry.1)) (sym found) ∙ named-entry c.args.table.now c.args.word.now
