-- The structure of a handle, as the plain list that it represents.
use Rattle.std.specs.Prelude.{Option, Some, None, if◌then◌else◌}
use Rattle.catalogue.specs.Structures.{Content, Parentheses, content_of}
use Rattle.vers_c.specs.declared.handle.VersHandle.{VersHandle}
use Rattle.vers_c.specs.declared.kept.Kept.{Kept}
use Rattle.vers_c.specs.declared.kept.Kept.TheVariants as kept

-- the plain list of a structure
abbrev pub content : Kept → Content
content (kept.Tree tree) = Parentheses tree.value
content (kept.Other structure) = content_of structure

-- the structure of a handle, if it is not empty
abbrev pub contents : VersHandle → Option Content
contents handle = if handle.is_built then Some (content handle.held.value.value) else None
