use Rattle.vers_bits.proofs.Names.{◌≡◌, ◌++◌, IsFinite, flat_map}
use Rattle.vers_bits.proofs.bit_vec.BitVec.extend_by.Given as goal

abbrev pub invariant-loop-list : goal.invariant-loop-list
invariant-loop-list g l = record {
  can : g.I.Iterator.can_next l.lists;
  ends : IsFinite (g.I.Iterator.remaining l.lists);
  grown : l.self ≡ l.fn.self ++ flat_map g.L.AsList.bits l.yielded;
}
