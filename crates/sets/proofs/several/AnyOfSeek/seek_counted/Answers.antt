use Rattle.std.proofs.Common.{◌+◌, ◌∷◌, List, map, arith}
use Rattle.sets.specs.Steps.{Searched}
use Rattle.sets.proofs.Joints.{inside_next, next_same, searched_more, sets_same, step_of_more}
use Rattle.sets.proofs.several.AnyOfSeek.seek_counted.Goals as goal

pub loop-i-preserved : goal.loop-i-preserved
loop-i-preserved g c =
    let items = c.loop-i.self.others.items in
    let old = c.args.self.now.others.items in
    let item = c.index_mut.result.now in
    let same = c.loop-i.invariant.same in
    let first : Searched = g.S.Seek.set c.args.self.now.first in
    let sets : List Searched = first ∷ map g.S.Seek.set old in
    let inside = inside_next g.S.Seek.set items old c.loop-i.i item same c.index_mut.ensures.value first (omega arith) in
    let is = next_same g.S.Seek.set items old c.loop-i.i item same c.index_mut.ensures.value first in
    record {
      same_first = c.loop-i.invariant.same_first;
      same = sets_same g.S.Seek.set items old c.loop-i.i item same c.index_mut.ensures.value c.seek_counted-other.new.self c.seek_counted-other.ensures.same_set;
      step = rw c.earlier-step.ensures (step_of_more sets (c.loop-i.i + 1) c.args.at (g.S.Seek.set item) c.loop-i.step c.seek_counted-other.result inside is c.loop-i.invariant.step
          c.seek_counted-other.ensures.value c.seek_counted-other.ensures.passes c.seek_counted-other.ensures.rises);
      adds = searched_more sets (c.loop-i.i + 1) (g.S.Seek.set item) c.args.tally.now c.loop-i.tally c.seek_counted-other.new.tally inside is c.loop-i.invariant.adds c.seek_counted-other.ensures.adds;
    }
