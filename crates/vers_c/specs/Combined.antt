-- Ascending lists combined as sets.
use Rattle.std.specs.Prelude.{ℕ, Bool, List, filter, Option, Some, None, slice_get}
use Rattle.std.specs.List.{range_with_len}
use Rattle.sets.specs.Sets.{in_both, in_either, in_difference}
use Rattle.catalogue.specs.Structures.{Content, SortedElements}
use Rattle.catalogue.specs.declared.documents.Joint.{Joint}
use Rattle.catalogue.specs.declared.documents.Joint.TheVariants.{Intersection, Union, Difference}
use Rattle.catalogue.specs.declared.documents.TheConstants.{JOINTS}

-- the numbers of 64 bits for which `has` is true, ascending
unfoldable pub numbers_with : (ℕ → Bool) → List ℕ
numbers_with has = filter has (range_with_len 0 18446744073709551616)

-- the numbers of an operation on two ascending lists
abbrev pub combined : Joint → List ℕ → List ℕ → List ℕ
combined Intersection one other = numbers_with (in_both one other)
combined Union one other = numbers_with (in_either one other)
combined Difference one other = numbers_with (in_difference one other)

-- the same of two structures, if both are such lists
abbrev pub combined_of : Joint → Content → Content → Option Content
combined_of joint (SortedElements one) (SortedElements other) = Some (SortedElements (combined joint one other))
combined_of joint one other = None

-- the same, if there is such an operation
abbrev pub combined_if_any : Option Joint → Content → Content → Option Content
combined_if_any None one other = None
combined_if_any (Some joint) one other = combined_of joint one other

-- the same by a code, which is the index of an operation in the table
unfoldable pub coded_combined : Content → Content → ℕ → Option Content
coded_combined one other code = combined_if_any (slice_get JOINTS code) one other

-- the same for two handles, which may be empty
abbrev pub contents_combined : Option Content → Option Content → ℕ → Option Content
contents_combined (Some one) (Some other) code = coded_combined one other code
contents_combined one other code = None
