-- Lists that are made from the structure of a handle.
use Rattle.std.specs.Prelude.{ℕ, List, ◌∷◌, Option, Some, None, slice_get}
use Rattle.inverted.specs.Lists.{list_of}
use Rattle.postings.specs.Posted.{common}
use Rattle.catalogue.specs.Structures.{Content, Documents, DocumentLists, PlainNumbers}
use Rattle.catalogue.specs.Joined.{joined}
use Rattle.catalogue.specs.declared.documents.Joint.{Joint}
use Rattle.catalogue.specs.declared.documents.TheConstants.{JOINTS}

-- the documents that two lists share, as plain numbers, if both are such
abbrev pub common_of : Content → Content → Option Content
common_of (Documents one) (Documents other) = Some (PlainNumbers (common one.documents other.documents))
common_of one other = None

-- the same for two handles, which may be empty
abbrev pub contents_common : Option Content → Option Content → Option Content
contents_common (Some one) (Some other) = common_of one other
contents_common one other = None

-- the documents of a term, as plain numbers
abbrev pub listed_of : Content → ℕ → Option Content
listed_of (DocumentLists index) term = Some (PlainNumbers (list_of index term))
listed_of held term = None

-- documents of a term and of others, as plain numbers
abbrev pub joined_of : Content → Joint → ℕ → List ℕ → Option Content
joined_of (DocumentLists index) joint first others = Some (PlainNumbers (joined index joint first others))
joined_of held joint first others = None

-- the same, if there is such an operation, and a first term
abbrev pub joined_if_any : Content → Option Joint → List ℕ → Option Content
joined_if_any held (Some joint) (first ∷ others) = joined_of held joint first others
joined_if_any held joint terms = None

-- the same by a code, which is the index of an operation in the table
abbrev pub coded_joined : Content → ℕ → List ℕ → Option Content
coded_joined held code terms = joined_if_any held (slice_get JOINTS code) terms
