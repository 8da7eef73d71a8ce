-- Lists of documents of several terms.
use Rattle.std.specs.Prelude.{ℕ, List, ◌∷◌, map}
use Rattle.sets.specs.Sets.{in_all, in_any, in_difference_of}
use Rattle.inverted.specs.Lists.{Lists, documents_with, list_of}
use Rattle.catalogue.specs.declared.documents.Joint.{Joint}
use Rattle.catalogue.specs.declared.documents.Joint.TheVariants.{Intersection, Union, Difference}

-- the documents of an operation on the lists of a term and of others, ascending
abbrev pub joined : Lists → Joint → ℕ → List ℕ → List ℕ
joined index Intersection first others = documents_with index (in_all (list_of index first) (map (list_of index) others))
joined index Union first others = documents_with index (in_any (list_of index first ∷ map (list_of index) others))
joined index Difference first others = documents_with index (in_difference_of (list_of index first) (map (list_of index) others))
