use Rattle.std.proofs.Common.{refl, subst, ◌∙◌, Some}
use Rattle.sets.specs.Steps.{Searched}
use Rattle.sets.proofs.Gathered.{HasTaken, all_taken, found_none, none_taken, so_far_end, so_far_found, so_far_past, taken_end, taken_found, taken_past}
use Rattle.sets.proofs.gather.numbers_of_counted.Goals as goal

pub loop-from-init : goal.loop-from-init
loop-from-init g c =
    let set : Searched = g.S.Seek.set c.args.source in
    record { same = refl; found = rw c.new-found.ensures.items (found_none set.has); taken = none_taken set (Some 0) c.args.tally.now }

pub returns-in_err-push-in-Found-clause-adds : goal.returns-in_err-push-in-Found-clause-adds
returns-in_err-push-in-Found-clause-adds g c =
    let set : Searched = g.S.Seek.set c.args.source in
    let same = c.loop-from.invariant.same in
    all_taken set (set.passed 0) c.args.tally.now c.seek_counted.new.tally
    (taken_end set (set.passed 0) c.in-Some.at c.loop-from.from c.args.tally.now c.loop-from.tally c.seek_counted.new.tally
    c.in-Some.is c.loop-from.invariant.taken (rw same at c.seek_counted.ensures.adds) (rw same at c.seek_counted.ensures.rises))

pub loop-from-preserved-in-Found : goal.loop-from-preserved-in-Found
loop-from-preserved-in-Found g c =
    let set : Searched = g.S.Seek.set c.args.source in
    let same = c.loop-from.invariant.same in
    record {
      same = c.seek_counted.ensures.same_set ∙ same;
      found = so_far_found set.has c.in-Some.at c.loop-from.from c.loop-from.found.items c.in-Some.is c.loop-from.invariant.found
          c.in-Found.x c.after-from.result c.push.new.self.items (rw same at c.in-Found.ensures.value) c.in_ok-push-in-Found.ensures.items c.after-from.ensures;
      taken = taken_found set (set.passed 0) c.in-Some.at c.loop-from.from c.args.tally.now c.loop-from.tally c.seek_counted.new.tally
          c.in-Some.is c.loop-from.invariant.taken (rw same at c.seek_counted.ensures.adds) c.in-Found.x c.after-from.result (rw same at c.in-Found.ensures.passes) (rw same at c.seek_counted.ensures.rises) c.after-from.ensures;
    }

pub loop-from-preserved-in-Past : goal.loop-from-preserved-in-Past
loop-from-preserved-in-Past g c =
    let set : Searched = g.S.Seek.set c.args.source in
    let same = c.loop-from.invariant.same in
    record {
      same = c.seek_counted.ensures.same_set ∙ same;
      found = so_far_past set.has c.in-Some.at c.loop-from.from c.loop-from.found.items c.in-Some.is c.loop-from.invariant.found c.in-Past.x (rw same at c.in-Past.ensures.value);
      taken = taken_past set (set.passed 0) c.in-Some.at c.loop-from.from c.args.tally.now c.loop-from.tally c.seek_counted.new.tally
          c.in-Some.is c.loop-from.invariant.taken (rw same at c.seek_counted.ensures.adds) c.in-Past.x (rw same at c.in-Past.ensures.passes);
    }

pub loop-from-preserved : goal.loop-from-preserved
loop-from-preserved g c =
    let set : Searched = g.S.Seek.set c.args.source in
    let same = c.loop-from.invariant.same in
    record {
      same = c.seek_counted.ensures.same_set ∙ same;
      found = so_far_end set.has c.in-Some.at c.loop-from.from c.loop-from.found.items c.in-Some.is c.loop-from.invariant.found (rw same at c.in-Ended.ensures.value);
      taken = taken_end set (set.passed 0) c.in-Some.at c.loop-from.from c.args.tally.now c.loop-from.tally c.seek_counted.new.tally
          c.in-Some.is c.loop-from.invariant.taken (rw same at c.seek_counted.ensures.adds) (rw same at c.seek_counted.ensures.rises);
    }

pub returns-clause-adds : goal.returns-clause-adds
returns-clause-adds g c =
    let set : Searched = g.S.Seek.set c.args.source in
    all_taken set (set.passed 0) c.args.tally.now c.loop-from.tally
    (subst (λ from. HasTaken set (set.passed 0) from c.args.tally.now c.loop-from.tally) c.in_default.is c.loop-from.invariant.taken)
