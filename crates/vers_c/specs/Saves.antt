-- The saved form of a handle's structure.
use Rattle.std.specs.Prelude.{◌≡◌, ◌≢◌, ◌↔◌, ◌⊎◌, ℕ, List, length, Option, Some, None, IsSome, IfSome, slice_get, option_map}
use Rattle.std.specs.Option.{option_and_then}
use Rattle.catalogue.specs.Structures.{Content, Fits, HasForm, HasSomeForm, IsSomeForm, kind_of, saved_form, saved_kind}
use Rattle.catalogue.specs.declared.structure.Kind.{Kind}
use Rattle.catalogue.specs.declared.structure.Kind.TheVariants as kind
use Rattle.catalogue.specs.declared.structure.TheConstants.{KINDS}
use Rattle.vers_saved.specs.Faults.{fault_of}
use Rattle.vers_saved.specs.declared.fault.LoadError.{LoadError}
use Rattle.vers_saved.specs.declared.fault.LoadError.TheVariants.{TooShort, NotOurs, OtherVersion, OtherKind, BadLength, BadSum, BadPadding, NotAscending, NotAText, Memory, Read}
use Rattle.vers_c.specs.Answers.{IsReportedAs}
use Rattle.vers_c.specs.declared.status.TheConstants.{ABSENT, BAD_LENGTH, BAD_PADDING, BAD_SUM, DONE, NOT_ASCENDING, NOT_A_TEXT, NOT_OURS, NO_MEMORY, OCCUPIED, OTHER_KIND, OTHER_VERSION, REFUSED, TOO_SHORT, UNKNOWN, VACANT}

-- the saved form of a structure, if such have one
abbrev pub form_of : Content → Option (List ℕ)
form_of held = option_map (λ kind. saved_form held) (kind_of held)

-- the same for a handle, which may be empty
abbrev pub contents_form : Option Content → Option (List ℕ)
contents_form held = option_and_then form_of held

-- the structure of a handle has a saved form
abbrev pub ContentsHaveForm : Option Content → Type 0
ContentsHaveForm None = ⊥
ContentsHaveForm (Some held) = HasForm held

-- the status of a load error; a read never fails, since the source is memory
abbrev pub fault_as : LoadError → ℕ
fault_as Memory = NO_MEMORY
fault_as TooShort = TOO_SHORT
fault_as NotOurs = NOT_OURS
fault_as OtherVersion = OTHER_VERSION
fault_as OtherKind = OTHER_KIND
fault_as BadLength = BAD_LENGTH
fault_as BadSum = BAD_SUM
fault_as BadPadding = BAD_PADDING
fault_as NotAscending = NOT_ASCENDING
fault_as NotAText = NOT_A_TEXT
fault_as Read = REFUSED

-- the status of bytes by the first test of them that fails, if one does
abbrev pub tested : Option LoadError → ℕ
tested None = DONE
tested (Some fault) = fault_as fault

-- the status of bytes as a saved form of a kind, if there is such a kind
abbrev pub bytes_status : Option Kind → List ℕ → ℕ
bytes_status None bytes = UNKNOWN
bytes_status (Some kind) bytes = tested (fault_of (saved_kind kind) bytes)

-- the status of a load by the code of a kind into a handle, which has to be empty
abbrev pub load_status : Option Content → ℕ → List ℕ → ℕ
load_status (Some held) code bytes = OCCUPIED
load_status None code bytes = bytes_status (slice_get KINDS code) bytes

-- the status is that of a load: of the first test of the bytes that fails, or 16 if they pass the tests and are the form of no text
abbrev pub IsLoadStatus : Option Content → ℕ → List ℕ → ℕ → Type 0
IsLoadStatus before code bytes status =
    IsReportedAs (load_status before code bytes) status
    ⊎ ((status ≡ NOT_A_TEXT) × (slice_get KINDS code ≡ Some kind.Text) × (load_status before code bytes ≡ DONE))

-- the bytes are a saved form of a structure, which fits it
pub record IsFormOf (bytes : List ℕ) (held : Content) : Type 0 where
  pub form : IsSomeForm held bytes
  pub whole : HasSomeForm held
  pub fits : Fits held

-- the handle has the structure whose saved form the bytes are, of the kind of that code, if the status is 0, otherwise it is unchanged:
-- an empty handle gets each structure of the kind back from its saved form, unless an allocation fails
pub record IsLoaded (code : ℕ) (bytes : List ℕ) (before after : Option Content) (status : ℕ) : Type 0 where
  pub reported : IsLoadStatus before code bytes status
  pub held : status ≡ DONE → IsSome after
  pub kind : status ≡ DONE → option_and_then kind_of after ≡ slice_get KINDS code
  pub whole : status ≡ DONE → IfSome after (IsFormOf bytes)
  pub back : (held : Content) → kind_of held ≡ slice_get KINDS code → IsFormOf bytes held
      → before ≡ None → ((status ≡ DONE) × (after ≡ Some held)) ⊎ (status ≡ NO_MEMORY)
  pub left : status ≢ DONE → after ≡ before

-- the bytes are the saved form of the structure if the status is 0, otherwise they are unchanged: the handle is empty, there is no saved form, it has another length, or an allocation failed
pub record IsSaved (held : Option Content) (before after : List ℕ) (status : ℕ) : Type 0 where
  pub saved : status ≡ DONE → contents_form held ≡ Some after
  pub fits : status ≡ DONE → IfSome held Fits
  pub left : status ≢ DONE → after ≡ before
  pub vacant : (status ≡ VACANT) ↔ (held ≡ None)
  pub absent : status ≡ ABSENT → ¬ ContentsHaveForm held
  pub refused : status ≡ REFUSED → option_map length (contents_form held) ≢ Some (length before)
  pub whole : (status ≡ DONE) ⊎ (status ≡ REFUSED) → ContentsHaveForm held
  pub reported : (status ≡ DONE) ⊎ (status ≡ ABSENT) ⊎ (status ≡ VACANT) ⊎ (status ≡ REFUSED) ⊎ (status ≡ NO_MEMORY)
