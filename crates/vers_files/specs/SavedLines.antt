-- What is written of a load line.
use Rattle.std.specs.Prelude.{◌≡◌, ◌≢◌, ◌==◌, ⊤, ◌⊎◌, Bool, true, false, Result, Ok, Err, if◌then◌else◌}
use Rattle.vers_words.specs.declared.loading.Loading.{Loading}
use Rattle.vers_words.specs.declared.loading.Loading.TheVariants.{Malformed, Inadmissible, Accepted}
use Rattle.vers_saved.specs.declared.fault.SaveError.{SaveError}
use Rattle.vers_saved.specs.declared.fault.SaveError.TheVariants as error
use Rattle.catalogue.specs.Structures.{Content, SymbolList, HasForm}
use Rattle.vers_files.specs.declared.saving.SaveFault.{SaveFault}
use Rattle.vers_files.specs.declared.saving.SaveFault.TheVariants.{BadLine, Refused, NoBits, TooLong, OutOfMemory, Read, Write, Begin, Sync, Put, Settle}

-- P is true of the list of a load line, if the line is accepted
abbrev pub IfAccepted : {H : Type 0} → Loading H → (H → Type 0) → Type 0
IfAccepted Malformed P = ⊤
IfAccepted Inadmissible P = ⊤
IfAccepted (Accepted held) P = P held

-- whether a structure is a list of symbols of no bits
abbrev pub has_no_bits : Content → Bool
has_no_bits (SymbolList symbols) = symbols.width == 0
has_no_bits _ = false

-- why a line with this outcome is not saved
abbrev pub SaysWhy : SaveFault → Loading Content → Type 0
SaysWhy BadLine loading = loading ≡ Malformed
SaysWhy Refused loading = loading ≡ Inadmissible
SaysWhy NoBits loading = (held : Content) × (loading ≡ Accepted held) × (has_no_bits held ≡ true) × ¬ HasForm held
SaysWhy TooLong loading = (held : Content) × (loading ≡ Accepted held) × (has_no_bits held ≡ false) × ¬ HasForm held
SaysWhy _ loading = ⊤

-- the result is that the list has no saved form
abbrev pub IsFormless : Result (Unit {0}) SaveFault → Type 0
IsFormless result = (result ≡ Err NoBits) ⊎ (result ≡ Err TooLong)

-- how a save of a line ends if the save of its list, of symbols of no bits or not, ends like this
abbrev pub line_saved : Bool → Result (Unit {0}) SaveError → Result (Unit {0}) SaveFault
line_saved no_bits (Ok u) = Ok u
line_saved no_bits (Err error.NoForm) = Err (if no_bits then NoBits else TooLong)
line_saved no_bits (Err error.Memory) = Err OutOfMemory
line_saved no_bits (Err error.Write) = Err Write

-- an error of a line or of a writer, and not of a file
abbrev pub IsOfLine : SaveFault → Type 0
IsOfLine Read = ⊥
IsOfLine Begin = ⊥
IsOfLine Sync = ⊥
IsOfLine Put = ⊥
IsOfLine Settle = ⊥
IsOfLine _ = ⊤

-- an error of a line, of a writer or of a file: each except a failed read
abbrev pub IsOfSave : SaveFault → Type 0
IsOfSave fault = fault ≢ Read

-- an error of an index of bytes, of a writer or of a file, and not of a line
abbrev pub IsOfIndex : SaveFault → Type 0
IsOfIndex BadLine = ⊥
IsOfIndex Refused = ⊥
IsOfIndex NoBits = ⊥
IsOfIndex _ = ⊤

-- the file is in place: the save succeeded, or only the sync of its folder failed
abbrev pub IsPut : Result (Unit {0}) SaveFault → Type 0
IsPut result = (result ≡ Ok tt) ⊎ (result ≡ Err Settle)
