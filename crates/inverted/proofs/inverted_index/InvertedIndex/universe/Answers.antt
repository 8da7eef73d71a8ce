use Rattle.std.proofs.Common.{refl}
use Rattle.inverted.proofs.inverted_index.InvertedIndex.universe.Goals as goal

pub returns : goal.returns
returns g c = rw (← c.self.view_is) refl
