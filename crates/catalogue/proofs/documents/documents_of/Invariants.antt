use Rattle.std.proofs.Common.{◌≡◌, ◌++◌, length}
use Rattle.inverted.specs.Lists.{list_of}
use Rattle.catalogue.proofs.documents.documents_of.Given as goal

abbrev pub invariant-loop-document : goal.invariant-loop-document
invariant-loop-document g l = l.found.items ++ l.documents.left ≡ list_of l.index l.term

abbrev pub decreases-loop-document : goal.decreases-loop-document
decreases-loop-document g l = length l.documents.left
