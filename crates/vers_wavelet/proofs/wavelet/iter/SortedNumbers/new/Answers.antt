use Rattle.vers_wavelet.proofs.Names.{arith}
use Rattle.vers_wavelet.proofs.wavelet.iter.SortedNumbers.new.Goals as goal

pub invariant_of-result : goal.invariant_of-result
invariant_of-result g c = (c.requires, λ ls n levels long same. c.new.ensures ls n (omega (arith, c.requires, long)), λ j h. absurd (omega (arith, h)))
