-- The saved form in a file, and the error in a file that is none.
use Rattle.std.specs.Prelude.{ℕ, ◌≡◌, ⊤, List, codes, slice_get, slice_index, unwrap_or, Option, Some, IfSome, ◌⊎◌}
use Rattle.catalogue.specs.Structures.{Content, GrowingBits, TableValues, IndexedText, Fits, HasSomeForm, IsSomeForm, saved_kind}
use Rattle.catalogue.specs.declared.structure.Kind.{Kind}
use Rattle.catalogue.specs.declared.structure.Kind.TheVariants as kind
use Rattle.catalogue.specs.declared.structure.TheConstants.{KINDS}
use Rattle.vers_saved.specs.declared.kind.Kind.{Kind as SavedKind}
use Rattle.vers_saved.specs.declared.kind.TheConstants.{BIT_LISTS}
use Rattle.vers_saved.specs.declared.fault.LoadError.{LoadError}
use Rattle.vers_saved.specs.declared.fault.LoadError.TheVariants.{TooShort, NotOurs, OtherVersion, OtherKind, BadLength, BadSum, BadPadding, NotAscending, NotAText, Memory, Read}
use Rattle.vers_saved.specs.Format.{words_of}
use Rattle.vers_saved.specs.Faults.{fault_of}

-- a list of a file: bits have ranks and selects, and values have minima from blocks
abbrev pub IsOfFile : Content → Type 0
IsOfFile (GrowingBits bits) = ⊥
IsOfFile (TableValues values) = ⊥
IsOfFile (IndexedText text) = ⊥
IsOfFile content = ⊤

-- what the lists of a kind in files have to meet; kinds of which files have no lists count as bits
abbrev pub kind_in_file : Kind → SavedKind
kind_in_file kind.Binary = BIT_LISTS
kind_in_file kind.Text = BIT_LISTS
kind_in_file kind = saved_kind kind

-- the kind of lists that has this number, or that of bits if none has
abbrev pub kind_numbered : ℕ → SavedKind
kind_numbered number = kind_in_file (unwrap_or (slice_get KINDS number) kind.Bits)

-- the number of the kind that bytes name: their third word
abbrev pub number_of_kind : List ℕ → ℕ
number_of_kind bytes = slice_index (words_of bytes) 2

-- the error in bytes as a saved form of the kind that they name, or `None` if they are one
abbrev pub form_fault : List ℕ → Option LoadError
form_fault bytes = fault_of (kind_numbered (number_of_kind bytes)) bytes

-- the bytes left in a reader are a saved form of a list
abbrev pub IsFormOf : Option (List ℕ) → Content → Type 0
IsFormOf left content = IsOfFile content × HasSomeForm content × IfSome left (IsSomeForm content) × Fits content

-- the reader failed, memory ran out, or the bytes left in the reader have the error
abbrev pub IsNoForm : Option (List ℕ) → LoadError → Type 0
IsNoForm left fault = (fault ≡ Read) ⊎ ((fault ≡ Memory) ⊎ IfSome left (λ bytes. form_fault bytes ≡ Some fault))

-- the message for an error: its name and its meaning
abbrev pub fault_text : LoadError → List ℕ
fault_text TooShort = codes "TooShort: the file is no saved form, or is cut off"
fault_text NotOurs = codes "NotOurs: the file does not begin as a saved list does"
fault_text OtherVersion = codes "OtherVersion: the list was saved by another version"
fault_text OtherKind = codes "OtherKind: the file has a structure of another kind, or items of another width"
fault_text BadLength = codes "BadLength: no list of this kind is as long, or the file goes on after it"
fault_text BadSum = codes "BadSum: the sum is not that of the bytes before it"
fault_text BadPadding = codes "BadPadding: a bit is set past the end of the list"
fault_text NotAscending = codes "NotAscending: the numbers do not ascend"
fault_text NotAText = codes "NotAText: no text has the column and the rows of the file"
fault_text Memory = codes "Memory: out of memory"
fault_text Read = codes "Read: the file can't be read"
