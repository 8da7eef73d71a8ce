use Rattle.std.proofs.Common.{refl, ◌∙◌}
use Rattle.sets.specs.Steps.{Searched, steps_taken}
use Rattle.sets.proofs.Gathered.{none_taken, taken_end, taken_found, taken_most, taken_past, walk_ended, walk_ends, walk_finds, walk_passes, walk_starts}
use Rattle.sets.proofs.walk.next_from.Goals as goal

pub loop-from-init : goal.loop-from-init
loop-from-init g c =
    let set : Searched = g.S.Seek.set c.args.source.now in
    record { same = refl; on = walk_starts set.has c.args.start; taken = none_taken set c.args.start c.args.tally.now }

pub loop-from-preserved-in-Past : goal.loop-from-preserved-in-Past
loop-from-preserved-in-Past g c =
    let set : Searched = g.S.Seek.set c.args.source.now in
    let same = c.loop-from.invariant.same in
    record {
      same = c.seek_counted.ensures.same_set ∙ same;
      on = walk_passes set.has c.args.start c.loop-from.from c.in-Some.at c.in-Past.x c.in-Some.is c.loop-from.invariant.on (rw same at c.in-Past.ensures.value);
      taken = taken_past set (steps_taken set c.args.start) c.in-Some.at c.loop-from.from c.args.tally.now c.loop-from.tally c.seek_counted.new.tally
          c.in-Some.is c.loop-from.invariant.taken (rw same at c.seek_counted.ensures.adds) c.in-Past.x (rw same at c.in-Past.ensures.passes);
    }

pub loop-from-preserved : goal.loop-from-preserved
loop-from-preserved g c =
    let set : Searched = g.S.Seek.set c.args.source.now in
    let same = c.loop-from.invariant.same in
    record {
      same = c.seek_counted.ensures.same_set ∙ same;
      on = walk_ends set.has c.args.start c.loop-from.from c.in-Some.at c.in-Some.is c.loop-from.invariant.on (rw same at c.in-Ended.ensures.value);
      taken = taken_end set (steps_taken set c.args.start) c.in-Some.at c.loop-from.from c.args.tally.now c.loop-from.tally c.seek_counted.new.tally
          c.in-Some.is c.loop-from.invariant.taken (rw same at c.seek_counted.ensures.adds) (rw same at c.seek_counted.ensures.rises);
    }

pub returns-clause-taken : goal.returns-clause-taken
returns-clause-taken g c = walk_ended (g.S.Seek.set c.args.source.now).has c.args.start c.loop-from.from c.in_default.is c.loop-from.invariant.on

pub returns-in-Found : goal.returns-in-Found
returns-in-Found g c =
    let set : Searched = g.S.Seek.set c.args.source.now in
    let same = c.loop-from.invariant.same in
    let rises = rw same at c.seek_counted.ensures.rises in
    let found = taken_found set (steps_taken set c.args.start) c.in-Some.at c.loop-from.from c.args.tally.now c.loop-from.tally c.seek_counted.new.tally
    c.in-Some.is c.loop-from.invariant.taken (rw same at c.seek_counted.ensures.adds) c.in-Found.x c.after.result (rw same at c.in-Found.ensures.passes) rises c.after.ensures in
    record {
      taken = walk_finds set.has c.args.start c.loop-from.from c.after.result c.in-Some.at c.in-Found.x c.in-Some.is c.loop-from.invariant.on (rw same at c.in-Found.ensures.value) c.after.ensures;
      same_set = c.seek_counted.ensures.same_set ∙ same;
      rises = found.rises;
      most = taken_most set c.after.result rises;
      adds = found.adds;
    }
