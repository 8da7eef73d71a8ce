use Rattle.vers_wavelet.proofs.Names.{rank_reads, length-set, ◌≡◌, ◌+◌, ◌-◌, ◌*◌, arith, length, ap, ◌∙◌}
use Rattle.vers_wavelet.proofs.Digits.{room_left, room_more}
use Rattle.vers_wavelet.proofs.Steps.{reduces_more, reduces_all}
use Rattle.vers_wavelet.proofs.Ways.{nodes_set}
use Rattle.vers_wavelet.proofs.Walks.{adds_no_times, adds_fewer, adds_level, level_length}
use Rattle.vers_wavelet.proofs.wavelet.way.Way.find.Goals as goal

pub loop-k-init : goal.loop-k-init
loop-k-init g c =
    let from = c.begin-from in
    record {
      order = from.ensures.inside;
      within = from.ensures.node.within;
      deep = from.ensures.level;
      room = from.ensures.node.room;
      kept = omega arith;
      reduced = λ j.
          let same : c.args.i - (c.args.i - from.result.node.from) + j ≡ from.result.node.from + j = omega (arith, from.ensures.from) in
          rw same (from.ensures.node.reduced j);
      way = c.requires.way;
      adds = adds_no_times _ _ rank_reads;
    }

pub put_digit-requires : goal.put_digit-requires
put_digit-requires g c = record { within = omega arith; room = room_left (length c.args.levels.now) c.loop-k.k c.loop-k-test.true c.loop-k.invariant.room }

pub loop-k-preserved : goal.loop-k-preserved
loop-k-preserved g c =
    let long : length c.index-levels-k.result ≡ c.args.len = ap length c.index-levels-k.is ∙ c.requires.levels c.loop-k.k c.index-levels-k.result c.loop-k-test.true in
    let room = room_left (length c.args.levels.now) c.loop-k.k c.loop-k-test.true c.loop-k.invariant.room in
    let put = c.put_digit.ensures in
    let to = c.choose_level-choice in
    let i = c.loop-k.invariant in
    record {
      order = to.ensures.order;
      within = omega (arith, to.ensures.within, long);
      deep = omega (arith, c.loop-k-test.true);
      room = rw put.value (room_more to.result.bit _ _ _ room);
      kept = omega (arith, to.ensures.left, i.kept);
      reduced = reduces_more c.args.levels.now c.loop-k.k c.loop-k-test.true c.index-levels-k.result c.index-levels-k.is to.result.bit
          (c.args.i - c.loop-k.choice.left) (c.args.i - to.result.left) (omega (arith, i.order)) (omega (arith, long)) to.ensures.start to.ensures.end (omega (arith, to.ensures.left, i.kept)) put.value i.reduced;
      way = record {
        long = length-set _ c.loop-k.k _ ∙ i.way.long;
        each = nodes_set c.args.levels.now c.args.len c.loop-k.k _ _ (omega (arith, c.requires.few, i.way.long)) i.way.each
            (record { order = omega (arith, i.order); within = i.within; room = i.room; reduced = i.reduced });
      };
      adds = adds_level c.loop-k.k i.adds to.ensures.adds;
    }

pub returns : goal.returns
returns g c =
    let i = c.loop-k.invariant in
    let all : c.args.i - c.loop-k.choice.left + c.loop-k.choice.left ≡ c.args.i = omega (arith, i.kept) in
    record {
      value = rw all at (reduces_all (omega (arith, i.deep)) (i.reduced c.loop-k.choice.left) i.order);
      equals = λ j h. reduces_all (omega (arith, i.deep)) (i.reduced j) (omega (arith, i.order));
      way = i.way;
      adds = adds_fewer (2 * c.loop-k.k) (2 * length c.args.levels.now) (omega arith) i.adds;
    }

pub choose_level-choice-requires : goal.choose_level-choice-requires
choose_level-choice-requires g c = grind (arith, level_length)
