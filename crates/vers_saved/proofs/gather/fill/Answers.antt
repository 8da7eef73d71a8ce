use Rattle.vers_saved.proofs.ReadForms.{filled_more}
use Rattle.vers_saved.proofs.gather.fill.Goals as goal

pub loop-filled-preserved : goal.loop-filled-preserved
loop-filled-preserved g c = (
  c.in-Ok.ensures.fits,
  filled_more (g.R.Read.remaining c.args.reader.now) (g.R.Read.remaining c.loop-filled.reader) (g.R.Read.remaining c.read_behind.new.reader) c.loop-filled.block c.read_behind.new.block
      c.loop-filled.filled c.in-Ok.given c.loop-filled.invariant.1 c.in-Ok.ensures.front c.in-Ok.ensures.read,
)
