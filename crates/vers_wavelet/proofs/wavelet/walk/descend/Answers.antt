use Rattle.vers_wavelet.proofs.Names.{◌≡◌, arith, length, sym, ◌∙◌}
use Rattle.vers_wavelet.proofs.Values.{next-le}
use Rattle.vers_wavelet.proofs.Steps.{final_down, final_all}
use Rattle.vers_wavelet.proofs.Batches.{adds_once_more}
use Rattle.vers_wavelet.proofs.Walks.{level_length}
use Rattle.vers_wavelet.proofs.wavelet.walk.descend.Goals as goal

pub loop-k-preserved : goal.loop-k-preserved
loop-k-preserved g c =
    let s = g.D.Digits.number c.args.symbol.now in
    let long : length c.index-levels-k.result ≡ c.args.len = level_length c.args.levels.now _ _ _ c.requires.levels.even c.index-levels-k.is c.loop-k-test.true in
    let to = c.next_position-at.ensures.value in
    record {
      within = omega (arith, to, long, next-le c.digit-bit.result c.index-levels-k.result c.loop-k.at);
      leads = rw to (sym (final_down c.args.levels.now s c.loop-k.k c.loop-k-test.true c.index-levels-k.result c.index-levels-k.is c.digit-bit.result c.digit-bit.ensures c.loop-k.at) ∙ c.loop-k.invariant.leads);
      adds = adds_once_more c.loop-k.k c.loop-k.invariant.adds c.next_position-at.ensures.adds;
    }

pub returns-clause-value : goal.returns-clause-value
returns-clause-value g c = final_all c.args.levels.now (g.D.Digits.number c.args.symbol.now) c.loop-k.k c.loop-k.at c.args.position (omega arith) c.loop-k.invariant.leads

pub next_position-at-requires : goal.next_position-at-requires
next_position-at-requires g c = omega (arith, level_length c.args.levels.now _ _ _ c.requires.levels.even c.index-levels-k.is c.loop-k-test.true)
