use Rattle.vers_bits.proofs.Names.{◌≡◌, map, drop, number}
use Rattle.vers_bits.proofs.bit_vec.make.parities.Given as goal

abbrev pub invariant-loop-position : goal.invariant-loop-position
invariant-loop-position g l = l.word ≡ number (map g.T.Item.is_odd (drop l.position l.items))
