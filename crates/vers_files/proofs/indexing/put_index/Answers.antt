use Rattle.std.proofs.Common.{Some}
use Rattle.vers_files.proofs.TextForms.{put_text, too_many}
use Rattle.vers_files.proofs.indexing.put_index.Goals as goal

pub returns-in-Ok-clause-too_long : goal.returns-in-Ok-clause-too_long
returns-in-Ok-clause-too_long g c = too_many _ (Some c.args.bytes.now) c.in-Ok.index c.in-Ok.ensures.text c.put.ensures.none

pub returns-in-Ok-clause-whole : goal.returns-in-Ok-clause-whole
returns-in-Ok-clause-whole g c = λ is_put. put_text (Some c.args.bytes.now) c.in-Ok.index g.P.Place.nothing _ c.in-Ok.ensures.text (c.put.ensures.whole is_put)
