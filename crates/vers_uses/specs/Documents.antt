-- Documents, one after another, in one text.
use Rattle.std.specs.Prelude.{ℕ, ◌+◌, ◌<◌, ◌≤◌, List, length, slice_index}

-- the bytes at which documents start, ascending, and the byte at which the text ends
pub record Collection : Type 0 where
  pub starts : List ℕ
  pub end : ℕ

-- the byte is in the text; document d starts at or before it, and the next document, if there is one, after it
pub record Holds (texts : Collection) (byte document : ℕ) : Type 0 where
  pub within : byte < texts.end
  pub inside : document < length texts.starts
  pub from : slice_index texts.starts document ≤ byte
  pub to : document + 1 < length texts.starts → byte < slice_index texts.starts (document + 1)
