use Rattle.vers_bits.proofs.Names.{◌≡◌, ◌*◌, ◌++◌, take, drop}
use Rattle.vers_bits.proofs.bit_vec.BitVec.append_from.Given as goal

abbrev pub invariant-loop-k : goal.invariant-loop-k
invariant-loop-k g l = l.self ≡ l.fn.self ++ take (64 * l.k) (drop l.start l.other)
