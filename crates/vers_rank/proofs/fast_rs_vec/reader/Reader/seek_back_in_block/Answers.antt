use Rattle.std.proofs.Common.{arith, rules}
use Rattle.vers_rank.proofs.Marks.{marks_are}
use Rattle.vers_rank.proofs.Reading.{whole_word}
use Rattle.vers_rank.proofs.ReadingBack.{passed_back, limb_before, backward}
use Rattle.vers_rank.proofs.fast_rs_vec.reader.Reader.seek_back_in_block.Goals as goal

pub overflow_sub-self-in-loop-ones-2 : goal.overflow_sub-self-in-loop-ones-2
overflow_sub-self-in-loop-ones-2 g c = grind (arith, passed_back)

pub limb-word-requires : goal.limb-word-requires
limb-word-requires g c = rw c.bits.view_is (grind (arith, passed_back))

pub loop-ones-smaller : goal.loop-ones-smaller
loop-ones-smaller g c = grind (arith, passed_back)

pub position_in_word-position-requires : goal.position_in_word-position-requires
position_in_word-position-requires g c = whole_word _ _ c.loop-ones.invariant.reading.marks.fits (omega (arith, c.loop-ones.invariant.ones))

pub returns-then-end-self : goal.returns-then-end-self
returns-then-end-self g c =
    let known = c.loop-ones.invariant in
    let position = c.position_in_word-position.ensures in
    let found = backward known.reading c.args.end known.from known.to _ position.within (omega (arith, position.from, known.ones)) (omega (arith, position.to, known.ones)) (omega (arith, known.ones)) in
    record { reading = found.0; next = search rules; some = found.1; adds = search rules }

pub loop-ones-preserved : goal.loop-ones-preserved
loop-ones-preserved g c =
    let known = c.loop-ones.invariant in
    let back = passed_back known.reading c.args.end known.from known.to (omega (arith, known.ones)) in
    record {
      reading = limb_before known.reading c.args.end known.from known.to _ _ known.ones (omega arith) (marks_are _ _ _ _ _ _ c.marks-self.ensures c.limb-word.ensures.value c.bits.view_is);
      from = known.from;
      to = omega arith;
      ones = search rules;
      down = omega arith;
      block = omega (arith, back.2);
      adds = search rules;
    }
