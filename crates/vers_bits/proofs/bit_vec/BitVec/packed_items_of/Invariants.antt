use Rattle.vers_bits.proofs.Names.{◌≡◌, IsFinite, low_bits, flat_map}
use Rattle.vers_bits.proofs.bit_vec.BitVec.packed_items_of.Given as goal

abbrev pub invariant-loop-item : goal.invariant-loop-item
invariant-loop-item g l = record {
  can : g.I.Iterator.can_next l.items;
  ends : IsFinite (g.I.Iterator.remaining l.items);
  packed : l.list ≡ flat_map (λ x. low_bits (g.T.Item.number x) l.k) l.yielded;
}
