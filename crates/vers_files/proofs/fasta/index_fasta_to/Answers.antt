use Rattle.vers_files.proofs.TextForms.{fasta_put, fasta_too_many}
use Rattle.vers_files.proofs.fasta.index_fasta_to.Goals as goal

pub returns-in-Ok-Ok-clause-whole : goal.returns-in-Ok-Ok-clause-whole
returns-in-Ok-Ok-clause-whole g c = λ is_put.
    fasta_put (g.F.Read.remaining c.args.file.now) c.as_slice.result.now c.in-Ok-Ok.text.items g.P.Place.nothing _ (rw c.in-Ok-Ok.field-0-is at c.in-Ok-Ok.ensures.text) c.as_slice.ensures.value (c.put_index.ensures.whole is_put)

pub returns-in-Ok-Ok-clause-too_long : goal.returns-in-Ok-Ok-clause-too_long
returns-in-Ok-Ok-clause-too_long g c =
    fasta_too_many c.put_index.result (g.F.Read.remaining c.args.file.now) c.as_slice.result.now c.in-Ok-Ok.text.items (rw c.in-Ok-Ok.field-0-is at c.in-Ok-Ok.ensures.text) c.as_slice.ensures.value c.put_index.ensures.too_long
