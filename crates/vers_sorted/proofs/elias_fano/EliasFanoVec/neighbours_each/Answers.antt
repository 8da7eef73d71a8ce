use Rattle.vers_sorted.proofs.Names.{◌+◌, sym, ◌∙◌, arith}
use Rattle.vers_sorted.proofs.elias_fano.EliasFanoVec.neighbours_each.Goals as goal

pub neighbour-requires : goal.neighbour-requires
neighbour-requires g c =
    λ v is in_list.
    let old = c.loop-j.invariant.changed.after (c.args.from + c.loop-j.j) (omega arith) in
    c.requires.begun c.loop-j.j (omega (arith, c.loop-j-test.true)) v (sym old ∙ is) in_list
