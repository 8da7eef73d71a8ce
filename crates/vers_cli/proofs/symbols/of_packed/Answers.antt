use Rattle.vers_cli.proofs.Names.{ap, ◌∙◌, arith, packed_symbols}
use Rattle.vers_cli.proofs.Packs.{if_ok_then, no_symbols, packed_are_low}
use Rattle.vers_cli.proofs.symbols.of_packed.Goals as goal

pub returns-then-width-eq0-clause-items : goal.returns-then-width-eq0-clause-items
returns-then-width-eq0-clause-items g c =
    if_ok_then c.from_slice.result _ _ (λ symbols made numbers at. made ∙ rw c.if-width-eq0.true (no_symbols numbers)) c.from_slice.ensures.items

pub returns-clause-items : goal.returns-clause-items
returns-clause-items g c =
    if_ok_then c.from_bit_vec.result _ _
    (λ symbols made numbers at. made ∙ ap (λ bits. packed_symbols bits c.args.width) at
    ∙ packed_are_low numbers c.args.width (omega (arith, c.if-width-eq0.false)) c.requires.narrow c.packed_elements_are_items.ensures)
    c.from_bit_vec.ensures.items
