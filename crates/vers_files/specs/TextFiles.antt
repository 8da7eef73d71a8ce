-- Files that are queried as texts.
use Rattle.std.specs.Prelude.{◌≡◌, ◌≢◌, ◌<◌, ◌⊎◌, ℕ, ⊤, List, length, codes, IfSome, Option, Some}
use Rattle.vers_wavelet.specs.Symbols.{Symbols}
use Rattle.text_index.specs.Makers.{IsSymbolWidth, symbols_of}
use Rattle.text_index.specs.Texts.{Text}
use Rattle.text_index.specs.declared.index.TheConstants.{MAX_LEN}
use Rattle.vers_saved.specs.Kinds.{HasTextForm}
use Rattle.vers_saved.specs.TextForms.{IsTextFault, IsTextForm}
use Rattle.vers_saved.specs.declared.fault.LoadError.{LoadError}
use Rattle.vers_saved.specs.declared.fault.LoadError.TheVariants.{Read, Memory as NoMemory}
use Rattle.vers_saved.specs.declared.kind.TheConstants.{TEXTS}
use Rattle.catalogue.specs.Structures.{Content, SymbolList}
use Rattle.vers_files.specs.declared.texts.TextFault.{TextFault}
use Rattle.vers_files.specs.declared.texts.TextFault.TheVariants.{File, NoSymbols, OtherWidth, TooLong, Memory}
use Rattle.vers_files.specs.Forms.{IsFormOf, IsNoForm, fault_text, form_fault, number_of_kind}

-- the bytes left in a reader are the saved form of these symbols
abbrev pub AreSymbolsOf : Option (List ℕ) → Symbols → Type 0
AreSymbolsOf left symbols = IsFormOf left (SymbolList symbols)

-- the bytes left in a reader are a saved form of the index of this text
abbrev pub IsIndexOf : Option (List ℕ) → Text → Type 0
IsIndexOf left text = HasTextForm text × IfSome left (IsTextForm text)

-- the bytes left in a reader are a saved form of a text of these symbols: that of the symbols, or that of an index
abbrev pub AreTextOf : Option (List ℕ) → Symbols → Type 0
AreTextOf left symbols = AreSymbolsOf left symbols ⊎ ((text : Text) × IsIndexOf left text × (symbols_of text ≡ symbols))

-- an error in bytes as a saved form of a text: that of an index, if they name this kind, otherwise that of a list of the kind that they name
abbrev pub IsTextFileFault : List ℕ → LoadError → Type 0
IsTextFileFault bytes fault = ((number_of_kind bytes ≡ TEXTS) × IsTextFault bytes fault)
    ⊎ ((number_of_kind bytes ≢ TEXTS) × (form_fault bytes ≡ Some fault))

-- the reader failed, memory ran out, or the bytes left in the reader have the error
abbrev pub IsNoTextForm : Option (List ℕ) → LoadError → Type 0
IsNoTextForm left fault = (fault ≡ Read) ⊎ ((fault ≡ NoMemory) ⊎ IfSome left (λ bytes. IsTextFileFault bytes fault))

-- the list is none of symbols
abbrev pub HasNoSymbols : Content → Type 0
HasNoSymbols held = (symbols : Symbols) → held ≡ SymbolList symbols → ⊥

-- what each error means for the bytes left in a reader
abbrev pub IsNoText : Option (List ℕ) → TextFault → Type 0
IsNoText left (File fault) = IsNoTextForm left fault
IsNoText left NoSymbols = (held : Content) × IsFormOf left held × HasNoSymbols held
IsNoText left OtherWidth = (symbols : Symbols) × AreSymbolsOf left symbols × (IsSymbolWidth symbols.width → ⊥)
IsNoText left TooLong = (symbols : Symbols) × AreSymbolsOf left symbols × IsSymbolWidth symbols.width × (MAX_LEN < length symbols.items)
IsNoText left Memory = ⊤

-- the same for bytes that are of no index
abbrev pub IsNoSymbolText : Option (List ℕ) → TextFault → Type 0
IsNoSymbolText left (File fault) = IsNoForm left fault
IsNoSymbolText left fault = IsNoText left fault

-- the message for an error: its name and its meaning
abbrev pub text_fault_text : TextFault → List ℕ
text_fault_text (File fault) = fault_text fault
text_fault_text NoSymbols = codes "NoSymbols: the file has neither a text nor symbols"
text_fault_text OtherWidth = codes "OtherWidth: the symbols of a text have 1 to 16 bits"
text_fault_text TooLong = codes "TooLong: a text has at most 4294967294 symbols"
text_fault_text Memory = codes "Memory: out of memory"
