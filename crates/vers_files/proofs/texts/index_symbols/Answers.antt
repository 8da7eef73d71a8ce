use Rattle.vers_files.proofs.TextForms.{unindexed}
use Rattle.vers_files.proofs.texts.index_symbols.Goals as goal

pub returns-clause-refused : goal.returns-clause-refused
returns-clause-refused g c =
    unindexed c.indexed.result (g.F.Read.remaining c.args.file.now) (record { width = c.in_ok-symbols.symbols.width; items = c.in_ok-symbols.symbols.items.items }) c.as_slice.result.now c.as_slice.ensures.value
    c.in_ok-symbols.ensures.loaded c.in_ok-symbols.ensures.width c.indexed.ensures.refused
