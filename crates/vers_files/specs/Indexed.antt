-- The index of the bytes of a file.
use Rattle.std.specs.Prelude.{◌≡◌, ◌<◌, ◌⊎◌, ℕ, false, List, length}
use Rattle.text_index.specs.Texts.{Text}
use Rattle.text_index.specs.declared.index.TheConstants.{DEFAULT_STEP, MAX_LEN}
use Rattle.vers_saved.specs.Format.{text_words}
use Rattle.vers_saved.specs.Kinds.{may_be_saved}
use Rattle.vers_saved.specs.declared.kind.TheConstants.{TEXT_INDEXES}

-- bytes as a text, with a sample every 32 positions
abbrev pub text_of_bytes : List ℕ → Text
text_of_bytes bytes = record { width = 8; items = bytes; step = DEFAULT_STEP }

-- there are more bytes than a text or a saved form can have
abbrev pub AreTooMany : List ℕ → Type 0
AreTooMany bytes = (MAX_LEN < length bytes) ⊎ (may_be_saved TEXT_INDEXES (length (text_words (text_of_bytes bytes))) 8 ≡ false)
