-- An owner of a structure in a box, and the types that own what this box owns.
use Rattle.vers_c.proofs.Names.{impl, tnil, dnil, Slot, plain, Bx, ghosts, dict}
use mathlib.Core.List.{[]}
use Rattle.std.specs.contracts.alloc.Global as Heap
use Rattle.std.proofs.alloc.Global.TheLaws as heap
use Rattle.vers_c.specs.contracts.kept.Kept as Kept
use Rattle.vers_c.proofs.kept.Kept.TheLaws as kept
use Rattle.std_alloc.specs.contracts.arc.Arc as Arc
use Rattle.std_alloc.proofs.arc.Arc.TheLaws as arc
use Rattle.vers_c.specs.contracts.loose.Loose as Loose
use Rattle.vers_c.specs.contracts.held.Held as Held

abbrev pub E : Bx
E = record { row = Arc.the_row Kept.the_row Heap.the_row ghosts; laws = arc.the_row_laws Kept.the_row Heap.the_row ghosts kept.the_row_laws heap.the_row_laws; al = record { row = Heap.the_row; laws = heap.the_row_laws; g = ghosts; d = dict; drops = impl [] tnil dnil } }

abbrev pub FromLoose : Slot 0
FromLoose = plain (λ _. Loose.the_row (Arc.the_row Kept.the_row Heap.the_row ghosts) Heap.the_row ghosts)

abbrev pub FromHeld : Slot 0
FromHeld = plain (λ _. Held.the_row)
