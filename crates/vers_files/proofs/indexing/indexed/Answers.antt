use Rattle.vers_files.proofs.TextForms.{too_many_read}
use Rattle.vers_files.proofs.indexing.indexed.Goals as goal

pub returns-in-Ok-clause-too_long : goal.returns-in-Ok-clause-too_long
returns-in-Ok-clause-too_long g c = too_many_read c.index_of.result (g.F.Read.remaining c.args.file.now) c.as_slice.result.now c.in-Ok.bytes.items c.in-Ok.ensures.bytes c.as_slice.ensures.value c.index_of.ensures.too_long
