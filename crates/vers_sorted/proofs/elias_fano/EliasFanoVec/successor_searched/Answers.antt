use Rattle.vers_sorted.proofs.Names.{◌∙◌, ◌<◌, ap, arith, length, Some, sym}
use Rattle.vers_sorted.proofs.Neighbours.{some_left, succ_at}
use Rattle.vers_sorted.proofs.Passes.{one_past, part_at}
use Rattle.vers_sorted.proofs.Packed.{high_same}
use Rattle.vers_sorted.proofs.elias_fano.EliasFanoVec.successor_searched.Goals as goal

pub overflow_add-passed : goal.overflow_add-passed
overflow_add-passed g c =
    let packed = rw c.self.view_is at c.self.invariant in
    let short : c.rank_counted-k.result < length c.args.self.now = omega (arith, c.rank_counted-k.ensures.value, some_left c.args.self.now c.args.v packed.ascending c.requires.inside.some c.requires.inside.to) in
    omega (arith, (part_at packed c.rank_counted-k.result c.select1_counted-position.result short c.select1_counted-position.ensures.value), c.select1_counted-position.ensures.within)

pub overflow_add-position : goal.overflow_add-position
overflow_add-position g c =
    let packed = rw c.self.view_is at c.self.invariant in
    let short : c.rank_counted-k.result < length c.args.self.now = omega (arith, c.rank_counted-k.ensures.value, some_left c.args.self.now c.args.v packed.ascending c.requires.inside.some c.requires.inside.to) in
    omega (arith, (one_past packed c.rank_counted-k.result c.select1_counted-position.result short c.select1_counted-position.ensures.value).0, ap length (high_same packed), c.len-passed.ensures.value, c.len-passed.ensures.bounded)

pub overflow_add-k : goal.overflow_add-k
overflow_add-k g c =
    let packed = rw c.self.view_is at c.self.invariant in
    let short : c.rank_counted-k.result < length c.args.self.now = omega (arith, c.rank_counted-k.ensures.value, some_left c.args.self.now c.args.v packed.ascending c.requires.inside.some c.requires.inside.to) in
    omega (arith, (part_at packed c.rank_counted-k.result c.select1_counted-position.result short c.select1_counted-position.ensures.value), c.select1_counted-position.ensures.within)

pub bits_from-passed-requires-clause-within : goal.bits_from-passed-requires-clause-within
bits_from-passed-requires-clause-within g c =
    let packed = rw c.self.view_is at c.self.invariant in
    let short : c.rank_counted-k.result < length c.args.self.now = omega (arith, c.rank_counted-k.ensures.value, some_left c.args.self.now c.args.v packed.ascending c.requires.inside.some c.requires.inside.to) in
    (one_past packed c.rank_counted-k.result c.select1_counted-position.result short c.select1_counted-position.ensures.value).0

pub bits_from-passed-requires-clause-next : goal.bits_from-passed-requires-clause-next
bits_from-passed-requires-clause-next g c =
    let packed = rw c.self.view_is at c.self.invariant in
    let short : c.rank_counted-k.result < length c.args.self.now = omega (arith, c.rank_counted-k.ensures.value, some_left c.args.self.now c.args.v packed.ascending c.requires.inside.some c.requires.inside.to) in
    (one_past packed c.rank_counted-k.result c.select1_counted-position.result short c.select1_counted-position.ensures.value).1

pub overflow_sub-position : goal.overflow_sub-position
overflow_sub-position g c =
    let packed = rw c.self.view_is at c.self.invariant in
    let short : c.rank_counted-k.result < length c.args.self.now = omega (arith, c.rank_counted-k.ensures.value, some_left c.args.self.now c.args.v packed.ascending c.requires.inside.some c.requires.inside.to) in
    omega (arith, (part_at packed c.rank_counted-k.result c.select1_counted-position.result short c.select1_counted-position.ensures.value))

pub overflow_sub-position-2 : goal.overflow_sub-position-2
overflow_sub-position-2 g c =
    let packed = rw c.self.view_is at c.self.invariant in
    let short : c.rank_counted-k.result < length c.args.self.now = omega (arith, c.rank_counted-k.ensures.value, some_left c.args.self.now c.args.v packed.ascending c.requires.inside.some c.requires.inside.to) in
    omega (arith, (part_at packed c.rank_counted-k.result c.select1_counted-position.result short c.select1_counted-position.ensures.value))

pub with_low_part-requires-clause-within : goal.with_low_part-requires-clause-within
with_low_part-requires-clause-within g c =
    let packed = rw c.self.view_is at c.self.invariant in
    let short : c.rank_counted-k.result < length c.args.self.now = omega (arith, c.rank_counted-k.ensures.value, some_left c.args.self.now c.args.v packed.ascending c.requires.inside.some c.requires.inside.to) in
    short

pub with_low_part-requires-clause-high : goal.with_low_part-requires-clause-high
with_low_part-requires-clause-high g c =
    let packed = rw c.self.view_is at c.self.invariant in
    let short : c.rank_counted-k.result < length c.args.self.now = omega (arith, c.rank_counted-k.ensures.value, some_left c.args.self.now c.args.v packed.ascending c.requires.inside.some c.requires.inside.to) in
    omega (arith, (part_at packed c.rank_counted-k.result c.select1_counted-position.result short c.select1_counted-position.ensures.value))

pub returns-clause-value : goal.returns-clause-value
returns-clause-value g c =
    let packed = rw c.self.view_is at c.self.invariant in
    let short : c.rank_counted-k.result < length c.args.self.now = omega (arith, c.rank_counted-k.ensures.value, some_left c.args.self.now c.args.v packed.ascending c.requires.inside.some c.requires.inside.to) in
    succ_at c.args.self.now c.args.v c.rank_counted-k.result packed.ascending c.rank_counted-k.ensures.value short ∙ ap Some (sym c.with_low_part.ensures.value)
