use Rattle.std.proofs.Common.{◌∙◌, take, sym, arith}
use Rattle.std.proofs.lemmas.List.{length-take}
use Rattle.text_index.specs.Makers.{symbols_of}
use Rattle.vers_files.proofs.TextForms.{index_refused, symbols_loaded, symbols_refused}
use Rattle.vers_files.proofs.texts.load_text.Goals as goal

pub returns-then-number_of_kind-eq-TEXTS-clause-refused : goal.returns-then-number_of_kind-eq-TEXTS-clause-refused
returns-then-number_of_kind-eq-TEXTS-clause-refused g c =
    let long = length-take c.in-Ok.filled c.fill.new.block in
    index_refused c.load_index.result (g.F.Read.remaining c.args.file.now) (g.F.Read.remaining c.fill.new.reader) _ (take c.in-Ok.filled c.fill.new.block)
    c.chain.ensures.bytes c.in-Ok.ensures.read (omega (arith, long, c.fill.auto.block)) (λ short. c.in-Ok.ensures.end (omega (arith, short, long, c.fill.auto.block)))
    (sym c.number_of_kind.ensures ∙ c.if-number_of_kind-eq-TEXTS.true) c.load_index.ensures.refused

pub returns-clause-loaded : goal.returns-clause-loaded
returns-clause-loaded g c =
    symbols_loaded c.index_symbols.result symbols_of (g.F.Read.remaining c.args.file.now) (g.F.Read.remaining c.fill.new.reader) _ (take c.in-Ok.filled c.fill.new.block)
    c.chain-2.ensures.bytes c.in-Ok.ensures.read c.index_symbols.ensures.loaded

pub returns-clause-refused : goal.returns-clause-refused
returns-clause-refused g c =
    let long = length-take c.in-Ok.filled c.fill.new.block in
    symbols_refused c.index_symbols.result (g.F.Read.remaining c.args.file.now) (g.F.Read.remaining c.fill.new.reader) _ (take c.in-Ok.filled c.fill.new.block)
    c.chain-2.ensures.bytes c.in-Ok.ensures.read (omega (arith, long, c.fill.auto.block)) (λ short. c.in-Ok.ensures.end (omega (arith, short, long, c.fill.auto.block)))
    (λ is. c.if-number_of_kind-eq-TEXTS.false (c.number_of_kind.ensures ∙ is)) c.index_symbols.ensures.refused
