use Rattle.vers_engine.proofs.Names.{◌++◌, take, arith, append_assoc, take_rest, take-append-drop, nat_tests}
use Rattle.std.proofs.lemmas.Grind.{common_steps}
use Rattle.std.proofs.KnownBytes.{Appends-trans}
use Rattle.vers_engine.proofs.engine.write_piece.Goals as goal

pub loop-rest-preserved : goal.loop-rest-preserved
loop-rest-preserved g c =
    let n = c.in-Ok.taken in
    let rest = c.loop-rest.rest.now in (
      (
        c.loop-rest.invariant.0.0 ++ take n rest,
        Appends-trans _ _ _ _ _ c.loop-rest.invariant.0.1 c.in-Ok.ensures.bytes,
        rw (take_rest, append_assoc, take-append-drop) c.loop-rest.invariant.0.2,
      ),
      grind (arith, nat_tests, common_steps),
    )
