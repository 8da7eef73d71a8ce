use Rattle.inverted.proofs.Sets.{ascending_set}
use Rattle.inverted.proofs.inverted_index.InvertedIndex.union_of.Goals as goal

pub from_slice-requires : goal.from_slice-requires
from_slice-requires g c = rw c.as_slice.ensures.value (ascending_set c.in_ok-found.ensures.set)
