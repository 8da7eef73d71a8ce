use Rattle.std.proofs.Common.{length, ap, arith, rules}
use Rattle.vers_rank.proofs.Marks.{marks_are}
use Rattle.vers_rank.proofs.Reading.{passed_inside, next_limb, whole_word, onward}
use Rattle.vers_rank.proofs.fast_rs_vec.reader.Reader.seek_in_block.Goals as goal

pub overflow_add-self-in-loop-ones : goal.overflow_add-self-in-loop-ones
overflow_add-self-in-loop-ones g c =
    let known = c.loop-ones.invariant in
    omega (arith, (passed_inside known.reading c.args.r known.from known.to _ known.ones (omega arith)).0, c.bits.invariant.bounded, ap length c.bits.view_is)

pub limb-word-requires : goal.limb-word-requires
limb-word-requires g c =
    let known = c.loop-ones.invariant in
    rw c.bits.view_is (passed_inside known.reading c.args.r known.from known.to _ known.ones (omega arith)).0

pub position_in_word-position-requires : goal.position_in_word-position-requires
position_in_word-position-requires g c = whole_word _ _ (c.loop-ones.invariant.reading.marks (omega arith)).fits (omega (arith, c.loop-ones.invariant.ones))

pub returns-then-self-r : goal.returns-then-self-r
returns-then-self-r g c =
    let known = c.loop-ones.invariant in
    let position = c.position_in_word-position.ensures in
    let found = onward known.reading (omega arith) c.args.r known.from c.requires.some _ position.within position.from position.to in
    record { reading = found.0; next = search rules; some = found.1; adds = search rules }

pub loop-ones-preserved : goal.loop-ones-preserved
loop-ones-preserved g c =
    let known = c.loop-ones.invariant in
    let inside = passed_inside known.reading c.args.r known.from known.to _ known.ones (omega arith) in
    record {
      reading = next_limb known.reading c.args.r known.from known.to _ known.ones (omega arith) _ (marks_are _ _ _ _ _ _ c.marks-self.ensures c.limb-word.ensures.value c.bits.view_is);
      from = omega arith;
      to = known.to;
      ones = search rules;
      up = omega arith;
      block = omega (arith, inside.1);
      adds = search rules;
    }
