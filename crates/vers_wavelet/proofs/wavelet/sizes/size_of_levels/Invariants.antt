use Rattle.vers_wavelet.proofs.Names.{◌≡◌, min, range_with_len, sum_by, index_size, digit_list, values}
use Rattle.vers_wavelet.proofs.wavelet.sizes.size_of_levels.Given as goal

abbrev pub invariant-loop-i : goal.invariant-loop-i
invariant-loop-i g l = l.bytes ≡ min (sum_by (λ j. index_size (digit_list j (values l.levels l.len))) (range_with_len 0 l.i)) 18446744073709551615
