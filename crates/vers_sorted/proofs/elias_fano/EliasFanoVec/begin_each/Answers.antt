use Rattle.vers_sorted.proofs.Names.{false, ap, ◌∙◌, arith, slice_index, select, high_of, get_or-map, get_or-take, length-map, length-take, get_or_append_left}
use Rattle.vers_sorted.proofs.Packed.{high_same}
use Rattle.vers_sorted.proofs.elias_fano.EliasFanoVec.begin_each.Goals as goal

pub go_on_each-requires-clause-before : goal.go_on_each-requires-clause-before
go_on_each-requires-clause-before g c =
    let packed = rw c.self.view_is at c.self.invariant in
    let high = c.self.inside.high in
    λ j h.
    (grind (arith, length-take, length-map, get_or_append_left, get_or-map, get_or-take))
    ∙ ap (select false high) (c.high_numbers.ensures j h)
    ∙ ap (λ l. select false l (high_of c.args.self.now (slice_index c.args.asked.now j))) (high_same packed)
