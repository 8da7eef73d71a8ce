use Rattle.vers_wavelet.proofs.wavelet.way.Way.begin.Given as goal

abbrev pub invariant-loop-j : goal.invariant-loop-j
invariant-loop-j g l = Unit {0}
