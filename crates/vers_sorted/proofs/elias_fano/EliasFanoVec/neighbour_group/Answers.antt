use Rattle.vers_sorted.proofs.Names.{◌≡◌, ℕ, ◌<◌, length, take, subst, ◌∙◌, arith, ◌^◌, slice_index, length-take, get_or-take, adds_then, IsBegun, IsInside}
use Rattle.vers_sorted.proofs.Batches.{neighbour_reads}
use Rattle.vers_sorted.proofs.elias_fano.EliasFanoVec.neighbour_group.Goals as goal

pub neighbours_each-requires-clause-begun : goal.neighbours_each-requires-clause-begun
neighbours_each-requires-clause-begun g c =
    let packed = rw c.self.view_is at c.self.invariant in
    λ j h v is in_list.
    let s = c.args.self.now in
    let w : ℕ = g.S.Side.bound v in
    let asked = c.bounds_each.new.asked in
    let small : g.S.Side.bound v < 2 ^ 64 = omega (arith, in_list.to, packed.last_is, packed.fits) in
    let same : slice_index (take c.args.n asked) j ≡ g.S.Side.bound v = get_or-take c.args.n asked j 0 h ∙ c.bounds_each.ensures j h v is small in
    let Goal : ℕ → Type 0 = λ x. IsInside s x → IsBegun s x (slice_index c.begin_each.new.before j) (slice_index c.begin_each.new.after j) (slice_index c.begin_each.new.parts j) in
    subst Goal same (c.begin_each.ensures.begun j (omega (arith, length-take c.args.n asked, h, c.requires.few))) in_list

pub returns-clause-adds : goal.returns-clause-adds
returns-clause-adds g c =
    let asked = c.bounds_each.new.asked in
    adds_then c.begin_each.ensures.adds c.neighbours_each.ensures.adds (neighbour_reads (length (take c.args.n asked)) c.args.n c.args.self.now
    (omega (arith, length-take c.args.n asked, c.requires.few)))
