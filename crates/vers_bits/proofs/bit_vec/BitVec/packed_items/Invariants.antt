use Rattle.vers_bits.proofs.Names.{◌≡◌, take, low_bits, flat_map}
use Rattle.vers_bits.proofs.bit_vec.BitVec.packed_items.Given as goal

abbrev pub invariant-loop-item : goal.invariant-loop-item
invariant-loop-item g l = l.list ≡ flat_map (λ x. low_bits (g.T.Item.number x) l.k) (take l.item-index l.items)
