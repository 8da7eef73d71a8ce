use Rattle.std.proofs.Common.{List, map, arith}
use Rattle.sets.specs.Steps.{Searched}
use Rattle.sets.proofs.Joints.{ended_in_each, here_in_each, inside_same, item_same, later_in_each, past_in_each, searched_last, searched_more, sets_same}
use Rattle.sets.proofs.several.in_each.Goals as goal

pub returns-then-x-y : goal.returns-then-x-y
returns-then-x-y g c =
    let items = c.loop-i.sets.items in
    let old = c.args.sets.now.items in
    let item = c.index_mut.result.now in
    let same = c.loop-i.invariant.same in
    let sets : List Searched = map g.S.Seek.set old in
    let inside = inside_same g.S.Seek.set items old c.loop-i.i item same c.index_mut.ensures.value (omega arith) in
    let is = item_same g.S.Seek.set items old c.loop-i.i item same c.index_mut.ensures.value in
    record {
      value = later_in_each sets c.loop-i.i (g.S.Seek.set item) c.args.x c.in-Found.y inside is c.in-Found.ensures.value c.if-x-y.true;
      same_sets = sets_same g.S.Seek.set items old c.loop-i.i item same c.index_mut.ensures.value c.seek_counted.new.self c.seek_counted.ensures.same_set;
      adds = searched_last sets c.loop-i.i (g.S.Seek.set item) c.args.tally.now c.loop-i.tally c.seek_counted.new.tally inside is c.loop-i.invariant.adds c.seek_counted.ensures.adds;
    }

pub returns-in-Past : goal.returns-in-Past
returns-in-Past g c =
    let items = c.loop-i.sets.items in
    let old = c.args.sets.now.items in
    let item = c.index_mut.result.now in
    let same = c.loop-i.invariant.same in
    let sets : List Searched = map g.S.Seek.set old in
    let inside = inside_same g.S.Seek.set items old c.loop-i.i item same c.index_mut.ensures.value (omega arith) in
    let is = item_same g.S.Seek.set items old c.loop-i.i item same c.index_mut.ensures.value in
    record {
      value = past_in_each sets c.loop-i.i (g.S.Seek.set item) c.args.x c.in-Past.y inside is c.in-Past.ensures.value;
      same_sets = sets_same g.S.Seek.set items old c.loop-i.i item same c.index_mut.ensures.value c.seek_counted.new.self c.seek_counted.ensures.same_set;
      adds = searched_last sets c.loop-i.i (g.S.Seek.set item) c.args.tally.now c.loop-i.tally c.seek_counted.new.tally inside is c.loop-i.invariant.adds c.seek_counted.ensures.adds;
    }

pub returns-in-Ended : goal.returns-in-Ended
returns-in-Ended g c =
    let items = c.loop-i.sets.items in
    let old = c.args.sets.now.items in
    let item = c.index_mut.result.now in
    let same = c.loop-i.invariant.same in
    let sets : List Searched = map g.S.Seek.set old in
    let inside = inside_same g.S.Seek.set items old c.loop-i.i item same c.index_mut.ensures.value (omega arith) in
    let is = item_same g.S.Seek.set items old c.loop-i.i item same c.index_mut.ensures.value in
    record {
      value = ended_in_each sets c.loop-i.i (g.S.Seek.set item) c.args.x inside is c.in-Ended.ensures.value;
      same_sets = sets_same g.S.Seek.set items old c.loop-i.i item same c.index_mut.ensures.value c.seek_counted.new.self c.seek_counted.ensures.same_set;
      adds = searched_last sets c.loop-i.i (g.S.Seek.set item) c.args.tally.now c.loop-i.tally c.seek_counted.new.tally inside is c.loop-i.invariant.adds c.seek_counted.ensures.adds;
    }

pub loop-i-preserved : goal.loop-i-preserved
loop-i-preserved g c =
    let items = c.loop-i.sets.items in
    let old = c.args.sets.now.items in
    let item = c.index_mut.result.now in
    let same = c.loop-i.invariant.same in
    let sets : List Searched = map g.S.Seek.set old in
    let inside = inside_same g.S.Seek.set items old c.loop-i.i item same c.index_mut.ensures.value (omega arith) in
    let is = item_same g.S.Seek.set items old c.loop-i.i item same c.index_mut.ensures.value in
    record {
      same = sets_same g.S.Seek.set items old c.loop-i.i item same c.index_mut.ensures.value c.seek_counted.new.self c.seek_counted.ensures.same_set;
      each = here_in_each sets c.loop-i.i (g.S.Seek.set item) c.args.x c.in-Found.y inside is c.in-Found.ensures.value c.if-x-y.false c.loop-i.invariant.each;
      adds = searched_more sets c.loop-i.i (g.S.Seek.set item) c.args.tally.now c.loop-i.tally c.seek_counted.new.tally inside is c.loop-i.invariant.adds c.seek_counted.ensures.adds;
    }
