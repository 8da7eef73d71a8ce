use Rattle.vers_wavelet.proofs.Names.{arith, refl}
use Rattle.vers_wavelet.proofs.Lists.{values_fit}
use Rattle.vers_wavelet.proofs.Inverses.{symbol_levels_are}
use Rattle.vers_wavelet.proofs.wavelet.WaveletMatrix.from_levels.Goals as goal

pub returns-in_err-len-clause-some : goal.returns-in_err-len-clause-some
returns-in_err-len-clause-some g c = (λ some. absurd (grind arith), λ all. absurd (rw c.as_slice.ensures.value at (c.in_err-len.ensures.none refl) all.0 all.1.0 all.1.1))

pub invariant_of-result : goal.invariant_of-result
invariant_of-result g c = rw c.as_slice.ensures.value at c.in_ok-len.ensures.levels

pub returns-clause-levels : goal.returns-clause-levels
returns-clause-levels g c = symbol_levels_are c.args.levels.items c.in_ok-len.len (rw c.as_slice.ensures.value at c.in_ok-len.ensures.levels.even)

pub returns-clause-fit : goal.returns-clause-fit
returns-clause-fit g c = values_fit c.args.levels.items c.in_ok-len.len

pub returns-clause-some : goal.returns-clause-some
returns-clause-some g c =
    let levels = rw c.as_slice.ensures.value at c.in_ok-len.ensures.levels in (λ some. (levels.narrow, (c.in_ok-len.len, levels.even)), λ all. refl)
