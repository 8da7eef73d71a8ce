use Rattle.vers_bits.proofs.Names.{◌≡◌, ◌++◌, map, length}
use Rattle.vers_bits.proofs.bit_vec.BitVec.odd_items.Given as goal

abbrev pub invariant-loop-rest : goal.invariant-loop-rest
invariant-loop-rest g l = l.list ++ map g.T.Item.is_odd l.rest ≡ map g.T.Item.is_odd l.items

abbrev pub decreases-loop-rest : goal.decreases-loop-rest
decreases-loop-rest g l = length l.rest
