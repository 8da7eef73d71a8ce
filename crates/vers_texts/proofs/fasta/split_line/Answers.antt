use Rattle.std.proofs.Common.{◌≡◌, ◌==◌, ◌∙◌, ◌∷◌, ◌+◌, [], Some, None, sym, ap, drop, position}
use Rattle.std.proofs.lemmas.List.{take_rest}
use Rattle.vers_texts.proofs.FastaLines.{lines_at, lines_whole}
use Rattle.vers_texts.specs.Fasta.{lines_in}
use Rattle.vers_texts.proofs.fasta.split_line.Goals as goal

pub returns-in-Some-clause-lines : goal.returns-in-Some-clause-lines
returns-in-Some-clause-lines c =
    let text = c.args.text.now in
    let at : position (λ b. b == 10) text ≡ Some c.in-Some.end = sym c.position_of.ensures ∙ c.in-Some.is in
    rw take_rest (lines_at text c.in-Some.end at ∙ ap (λ line. line ∷ lines_in (drop (c.in-Some.end + 1) text)) (sym c.without_return.ensures))

pub returns-in-None-clause-lines : goal.returns-in-None-clause-lines
returns-in-None-clause-lines c =
    let text = c.args.text.now in
    let none : position (λ b. b == 10) text ≡ None = sym c.position_of.ensures ∙ c.in-None.is in
    lines_whole text none ∙ ap (λ line. line ∷ []) (sym c.without_return-in-None.ensures)
