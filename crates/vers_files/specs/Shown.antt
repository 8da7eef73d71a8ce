-- The description of a structure in a file.
use Rattle.std.specs.Prelude.{◌≡◌, ℕ, List, length, Option, Some}
use Rattle.text_index.specs.Texts.{Text}
use Rattle.catalogue.specs.Structures.{Content, IndexedText, length_of, HasForm, kind_of, saved_form, width_of}
use Rattle.vers_files.specs.declared.showing.Shown.{Shown}
use Rattle.vers_files.specs.Forms.{IsFormOf}
use Rattle.vers_files.specs.TextFiles.{IsIndexOf}

-- the description is that of a structure, with the size of the form that a save writes, or 0 if it has none
pub record Describes (shown : Shown) (content : Content) : Type 0 where
  pub kind : kind_of content ≡ Some shown.kind
  pub len : shown.len ≡ length_of content
  pub width : shown.width ≡ width_of content
  pub bytes : HasForm content → shown.bytes ≡ length (saved_form content)
  pub none : ¬ HasForm content → shown.bytes ≡ 0

-- the description is that of a list, of which the bytes left in a reader are the saved form
abbrev pub IsListShown : Option (List ℕ) → Shown → Type 0
IsListShown left shown = (held : Content) × IsFormOf left held × Describes shown held

-- the description is that of the index of a text, of which the bytes left in a reader are the saved form
abbrev pub IsTextShown : Option (List ℕ) → Shown → Type 0
IsTextShown left shown = (text : Text) × IsIndexOf left text × Describes shown (IndexedText text)
