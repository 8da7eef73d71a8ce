use Rattle.vers_files.proofs.TextForms.{put_text, too_many}
use Rattle.vers_files.proofs.indexing.index_to.Goals as goal

pub returns-in-Ok-clause-whole : goal.returns-in-Ok-clause-whole
returns-in-Ok-clause-whole g c = λ is_put.
    put_text (g.F.Read.remaining c.args.file.now) c.in-Ok.text g.P.Place.nothing _ c.in-Ok.ensures.text (c.put.ensures.whole is_put)

pub returns-in-Ok-clause-too_long : goal.returns-in-Ok-clause-too_long
returns-in-Ok-clause-too_long g c = too_many _ (g.F.Read.remaining c.args.file.now) c.in-Ok.text c.in-Ok.ensures.text c.put.ensures.none
