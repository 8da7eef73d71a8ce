use Rattle.vers_bits.proofs.Names.{◌≡◌, ◌++◌, ◌-◌, ◌%◌, ◌^◌, ◌<◌, ◌≤◌, map, length, IsFinite, low_bits}
use Rattle.vers_bits.proofs.bit_vec.BitVec.odd_items_of.Given as goal

abbrev pub invariant-loop-item : goal.invariant-loop-item
invariant-loop-item g l = record {
  can : g.I.Iterator.can_next l.items;
  ends : IsFinite (g.I.Iterator.remaining l.items);
  bits : l.list ++ low_bits l.word l.gathered ≡ map g.T.Item.is_odd l.yielded;
  small : l.word < 2 ^ l.gathered;
  within : l.gathered ≤ l.room;
  room : l.room ≡ (64 - length l.list % 64) % 64;
}
