use Rattle.vers_trees.proofs.Names.{◌≡◌, true, false, length, AreEntries}
use Rattle.vers_trees.proofs.trees.bp.bytes.ByteTables.new.Given as goal

abbrev pub invariant-loop-byte : goal.invariant-loop-byte
invariant-loop-byte l = record {
  forward : AreEntries false l.byte l.forward;
  backward : AreEntries true l.byte l.backward;
  all : length l.forward ≡ 256;
  both : length l.backward ≡ 256;
}
