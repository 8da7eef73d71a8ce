use Rattle.vers_saved.proofs.Names.{arith}
use Rattle.vers_saved.proofs.Rows.{row_words-is}
use Rattle.vers_saved.proofs.SymbolLevels.{whole_levels}
use Rattle.vers_saved.proofs.symbols.WaveletMatrixSaved.shape.Goals as goal

pub returns-clause-whole : goal.returns-clause-whole
returns-clause-whole g c =
    let r = c.in_ok-rows_of_items in
    let small = rw (r.ensures.rows, r.ensures.bits, c.bits_per_element-width.ensures.value, c.len-count.ensures.value, row_words-is) at r.ensures.small in
    whole_levels c.args.self.now (omega (arith, c.bits_per_element-width.ensures.value)) (omega (arith, c.bits_per_element-width.ensures.value)) small
