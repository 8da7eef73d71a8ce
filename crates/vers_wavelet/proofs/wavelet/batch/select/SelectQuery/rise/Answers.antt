use Rattle.vers_wavelet.proofs.Names.{both_ways, ◌<◌, ◌≡◌, ◌+◌, ◌-◌, Bool, List, arith, refl, select, start, final_position}
use Rattle.vers_wavelet.proofs.Steps.{rise_inside, rise_to}
use Rattle.vers_wavelet.proofs.Walks.{level_length}
use Rattle.vers_wavelet.proofs.wavelet.batch.select.SelectQuery.rise.Goals as goal

pub returns : goal.returns
returns g c =
    let v : List Bool = c.index-levels-k.result in
    let bit : Bool = c.digit-bit.result in
    let up = rw (c.in-Some.is) at c.requires.seeks.reached in
    let inside = c.is_of_bit.ensures.0 c.if-not-is_of_bit.false in
    let at : c.args.above ≡ select bit v (c.in-Some.position - start bit v) =
    rw c.digit-bit.ensures (c.requires.above v c.in-Some.position c.index-levels-k.is c.in-Some.is (rw c.digit-bit.ensures at inside.0)) in
    let risen = rise_to _ _ _ c.requires.within v c.index-levels-k.is bit c.digit-bit.ensures _ c.requires.levels.even _ c.in-Some.position up inside.0 inside.1 in
    record { rank = refl; symbol = refl; seeks = record { reached = rw at risen; some = λ h. refl } }

pub returns-then-not-is_of_bit : goal.returns-then-not-is_of_bit
returns-then-not-is_of_bit g c =
    let ls : List (List Bool) = c.args.levels.now in
    let up = rw (c.in-Some.is) at c.requires.seeks.reached in
    let some = λ (h : final_position ls c.args.self.symbol 0 + c.args.self.rank < final_position ls c.args.self.symbol c.args.len).
    let inside = rise_inside ls c.args.self.symbol c.args.k c.requires.within _ c.index-levels-k.is _ c.digit-bit.ensures _ c.requires.levels.even _ c.in-Some.position up (omega arith) h in
    absurd (both_ways _ c.if-not-is_of_bit.true (c.is_of_bit.ensures.1 inside)) in
    record { rank = refl; symbol = refl; seeks = record { reached = tt; some = some } }

pub returns-in_default : goal.returns-in_default
returns-in_default g c = record { rank = refl; symbol = refl; seeks = record { reached = rw (c.in_default.is) tt; some = c.requires.seeks.some } }

pub is_of_bit-requires : goal.is_of_bit-requires
is_of_bit-requires g c = grind (arith, level_length)
