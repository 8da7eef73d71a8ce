use Rattle.vers_wavelet.proofs.Names.{adds_weaker, arith, ◌∙◌}
use Rattle.vers_wavelet.proofs.Batches.{become_map}
use Rattle.vers_wavelet.proofs.Answering.{get_ends}
use Rattle.vers_wavelet.proofs.wavelet.WaveletMatrix.get_u64_each_counted.Goals as goal

pub returns-clause-value : goal.returns-clause-value
returns-clause-value g c =
    rw (← c.levels.ensures.wide, ← c.levels.ensures.items, ← c.len.ensures.value)
    (become_map _ _ _ _ c.ask_each.ensures.each (λ q r t. get_ends r.answer r.position ∙ t.2))

pub ask_each-requires : goal.ask_each-requires
ask_each-requires g c = rw c.len.ensures.value c.levels.ensures.levels

pub returns-clause-adds : goal.returns-clause-adds
returns-clause-adds g c = rw (← c.levels.ensures.wide) (adds_weaker c.ask_each.ensures.adds (omega arith))
