use Rattle.vers_sorted.proofs.Names.{arith, high_length, adds_then, below_more, adds_weaker}
use Rattle.vers_sorted.proofs.Begins.{begun_more}
use Rattle.vers_sorted.proofs.Bounds.{part_after}
use Rattle.vers_sorted.proofs.elias_fano.EliasFanoVec.go_on_each.Goals as goal
use Rattle.vers_sorted.proofs.elias_fano.EliasFanoVec.go_on_each.Goals.{then-is_inside, else-is_inside}

pub loop-j-preserved : goal.loop-j-preserved
loop-j-preserved g c =
    let s = c.args.self.now in
    let asked = c.args.asked.now in
    let begun = c.loop-j.invariant.begun in
    let adds = c.loop-j.invariant.adds in
    elim c.if-is_inside.branch [
      | then-is_inside w ↦ rw (w.after-is, w.parts-is, w.tally-is) (record {
        begun = begun_more s asked c.args.before.now _ _ c.loop-j.j _ _ (omega arith) (omega arith) begun
            (record { before_is = c.requires.before c.loop-j.j (omega arith); after_is = w.zero_past.ensures.value; part_is = w.first_part.ensures.value });
        adds = adds_then adds (part_after 2 (high_length c.args.self.now) w.zero_past.ensures.adds w.first_part.ensures.adds) (grind arith);
      })
      | else-is_inside w ↦ rw (w.after-is, w.parts-is, w.tally-is) (record {
        begun = below_more _ _ begun (λ inside. absurd (omega (arith, c.is_inside.ensures.outside w.if-is_inside.false inside.from, inside.to)));
        adds = adds_weaker adds (grind arith);
      })
    ]
