use Rattle.std.proofs.lemmas.Map.Keys.{non_decreasing_from_sorted, sorted_from_strictly_increasing}
use Rattle.postings.proofs.postings.documents_beside.Goals as goal

pub from_slice-requires : goal.from_slice-requires
from_slice-requires g c = non_decreasing_from_sorted c.args.documents.now (sorted_from_strictly_increasing c.args.documents.now c.requires)
