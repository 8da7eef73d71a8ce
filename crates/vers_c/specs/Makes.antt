-- What a build leaves in a handle.
use Rattle.std.specs.Prelude.{◌≡◌, ◌≢◌, ℕ, ◌==◌, ◌&&◌, nat_le, nat_lt, List, length, zip, Option, Some, None, if◌then◌else◌}
use Rattle.std.specs.List.{list_all}
use Rattle.inverted.specs.Lists.{Lists}
use Rattle.inverted.specs.Makers.{index_of, refusal_of}
use Rattle.inverted.specs.declared.fault.InvertedError.{InvertedError}
use Rattle.vers_sorted.specs.Ones.{ones_at}
use Rattle.vers_sorted.specs.Sorted.{each_next}
use Rattle.vers_wavelet.specs.Makers.{low_symbols}
use Rattle.vers_c.specs.Answers.{IsReportedAs}
use Rattle.catalogue.specs.Structures.{Content, SparseBits, SortedElements, SymbolList, Documents, DocumentLists}
use Rattle.vers_c.specs.declared.status.TheConstants.{DONE, OCCUPIED, REFUSED, VACANT}

-- of numbers, which have to ascend
abbrev pub sorted_made : List ℕ → Option Content
sorted_made numbers = if each_next nat_le numbers then Some (SortedElements numbers) else None

-- from the positions of ones, which have to ascend strictly and to be less than the length
abbrev pub sparse_made : List ℕ → ℕ → Option Content
sparse_made ones len =
    if each_next nat_lt ones && list_all (λ position. nat_lt position len) ones then Some (SparseBits (ones_at ones len)) else None

-- of numbers, of which `width` low bits count; that is at most 64
abbrev pub symbols_made : List ℕ → ℕ → Option Content
symbols_made numbers width = if nat_le width 64 then Some (SymbolList (record { width = width; items = low_symbols numbers width })) else None

-- of documents, which have to ascend strictly, with as many costs
abbrev pub posted_made : List ℕ → List ℕ → Option Content
posted_made documents costs =
    if (length documents == length costs) && each_next nat_lt documents
    then Some (Documents (record { documents = documents; costs = costs }))
    else None

-- an index, unless there is a reason against it
abbrev pub index_made : Option InvertedError → Lists → Option Content
index_made None index = Some (DocumentLists index)
index_made (Some reason) index = None

-- of pairs of terms and as many documents, which have an index below these limits
abbrev pub inverted_made : ℕ → ℕ → List ℕ → List ℕ → Option Content
inverted_made limit universe terms documents =
    if length terms == length documents
    then index_made (refusal_of limit universe (zip terms documents)) (index_of limit universe (zip terms documents))
    else None

-- the status of a build: for a handle that is not empty, and for what can't be made
abbrev pub made_status : Option Content → Option Content → ℕ
made_status (Some held) wanted = OCCUPIED
made_status None None = REFUSED
made_status None (Some made) = DONE

-- the handle has the new structure if the status is 0, otherwise it is unchanged
pub record IsMade (wanted before after : Option Content) (status : ℕ) : Type 0 where
  pub made : status ≡ DONE → after ≡ wanted
  pub left : status ≢ DONE → after ≡ before
  pub reported : IsReportedAs (made_status before wanted) status

-- the status of sharing the structure of a handle with another handle
abbrev pub shared_status : Option Content → Option Content → ℕ
shared_status None before = VACANT
shared_status (Some held) (Some other) = OCCUPIED
shared_status (Some held) None = DONE

-- the other handle has the same structure if the status is 0, otherwise it is unchanged
pub record IsShared (held before after : Option Content) (status : ℕ) : Type 0 where
  pub made : status ≡ DONE → after ≡ held
  pub left : status ≢ DONE → after ≡ before
  pub reported : IsReportedAs (shared_status held before) status
