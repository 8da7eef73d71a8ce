use Rattle.std.proofs.Common.{◌∙◌, take, sym, arith}
use Rattle.std.proofs.lemmas.List.{length-take}
use Rattle.vers_files.proofs.TextForms.{list_not_shown, list_shown, text_not_shown, text_shown}
use Rattle.vers_files.proofs.showing.show.Goals as goal

pub returns-then-number_of_kind-eq-TEXTS-clause-shown : goal.returns-then-number_of_kind-eq-TEXTS-clause-shown
returns-then-number_of_kind-eq-TEXTS-clause-shown g c =
    text_shown c.show_text.result (g.F.Read.remaining c.args.file.now) (g.F.Read.remaining c.fill.new.reader) _ (take c.in_ok-filled.filled c.fill.new.block)
    c.chain.ensures.bytes c.in_ok-filled.ensures.read c.show_text.ensures.shown

pub returns-then-number_of_kind-eq-TEXTS-clause-refused : goal.returns-then-number_of_kind-eq-TEXTS-clause-refused
returns-then-number_of_kind-eq-TEXTS-clause-refused g c =
    let long = length-take c.in_ok-filled.filled c.fill.new.block in
    text_not_shown c.show_text.result (g.F.Read.remaining c.args.file.now) (g.F.Read.remaining c.fill.new.reader) _ (take c.in_ok-filled.filled c.fill.new.block)
    c.chain.ensures.bytes c.in_ok-filled.ensures.read (omega (arith, long, c.fill.auto.block)) (λ short. c.in_ok-filled.ensures.end (omega (arith, short, long, c.fill.auto.block)))
    (sym c.number_of_kind.ensures ∙ c.if-number_of_kind-eq-TEXTS.true) c.show_text.ensures.refused

pub returns-clause-shown : goal.returns-clause-shown
returns-clause-shown g c =
    list_shown c.show_list.result (g.F.Read.remaining c.args.file.now) (g.F.Read.remaining c.fill.new.reader) _ (take c.in_ok-filled.filled c.fill.new.block)
    c.chain-2.ensures.bytes c.in_ok-filled.ensures.read c.show_list.ensures.shown

pub returns-clause-refused : goal.returns-clause-refused
returns-clause-refused g c =
    let long = length-take c.in_ok-filled.filled c.fill.new.block in
    list_not_shown c.show_list.result (g.F.Read.remaining c.args.file.now) (g.F.Read.remaining c.fill.new.reader) _ (take c.in_ok-filled.filled c.fill.new.block)
    c.chain-2.ensures.bytes c.in_ok-filled.ensures.read (omega (arith, long, c.fill.auto.block)) (λ short. c.in_ok-filled.ensures.end (omega (arith, short, long, c.fill.auto.block)))
    (λ is. c.if-number_of_kind-eq-TEXTS.false (c.number_of_kind.ensures ∙ is)) c.show_list.ensures.refused
