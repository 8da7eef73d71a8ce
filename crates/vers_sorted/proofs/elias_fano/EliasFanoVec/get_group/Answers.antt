use Rattle.vers_sorted.proofs.Names.{true, ap, ◌∙◌, arith, unwrap_or, select, get_or-map, get_or-take, length-map, length-take, get_or_append_left}
use Rattle.vers_sorted.proofs.elias_fano.EliasFanoVec.get_group.Goals as goal

pub elements_each-requires-clause-ones : goal.elements_each-requires-clause-ones
elements_each-requires-clause-ones g c =
    let packed = rw c.self.view_is at c.self.invariant in
    λ j h i is within.
    (grind (arith, length-take, length-map, get_or_append_left, get_or-map, get_or-take))
    ∙ ap (select true c.self.inside.high) (c.ask_each.ensures j h ∙ ap (λ o. unwrap_or o 18446744073709551615) is)
    ∙ packed.high_parts.position i within
