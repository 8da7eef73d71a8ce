use Rattle.std.proofs.Common.{◌∙◌, take, sym, arith}
use Rattle.std.proofs.lemmas.List.{length-take}
use Rattle.catalogue.specs.Structures.{saved_form}
use Rattle.vers_files.proofs.Fronts.{named_fault, front_form}
use Rattle.vers_files.proofs.loading.load_file.Goals as goal

pub returns-clause-refused : goal.returns-clause-refused
returns-clause-refused g c =
    let long = length-take c.in_ok-filled.filled c.fill.new.block in
    named_fault c.load_numbered.result c.number_of_kind.result (g.F.Read.remaining c.args.file.now) (g.F.Read.remaining c.fill.new.reader) _ (take c.in_ok-filled.filled c.fill.new.block)
    c.chain.ensures.bytes c.number_of_kind.ensures c.in_ok-filled.ensures.read (omega (arith, long, c.fill.auto.block))
    (λ short. c.in_ok-filled.ensures.end (omega (arith, short, long, c.fill.auto.block))) c.load_numbered.ensures.refused

pub returns-clause-back : goal.returns-clause-back
returns-clause-back g c = λ x of_file whole fits is.
    let long = length-take c.in_ok-filled.filled c.fill.new.block in
    let both = front_form (g.F.Read.remaining c.args.file.now) (g.F.Read.remaining c.fill.new.reader) (take c.in_ok-filled.filled c.fill.new.block) (saved_form x)
    c.in_ok-filled.ensures.read (omega (arith, long, c.fill.auto.block)) (λ short. c.in_ok-filled.ensures.end (omega (arith, short, long, c.fill.auto.block))) is in
    c.load_numbered.ensures.back x of_file whole fits (both.0 ∙ sym c.number_of_kind.ensures) (c.chain.ensures.bytes ∙ both.1)
