use Rattle.std.proofs.Common.{◌≡◌, take}
use Rattle.vers_files.proofs.texts.items_of.Given as goal

abbrev pub invariant-loop-place : goal.invariant-loop-place
invariant-loop-place g l = l.items.items ≡ take l.place l.symbols.items
