use Rattle.vers_saved.proofs.WordLists.{listed_up}
use Rattle.vers_saved.proofs.numbers.EliasFanoVecLoaded.make_packed.Goals as goal

pub from_slice-requires : goal.from_slice-requires
from_slice-requires g c = rw c.as_slice.ensures.value (listed_up c.args.held.now.items c.args.of.count c.args.of.width c.requires.whole)
