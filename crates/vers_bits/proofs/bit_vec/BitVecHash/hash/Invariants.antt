use Rattle.vers_bits.proofs.Names.{◌≡◌, take, fold, limbs, flat_map}
use Rattle.std.specs.Hash as fed
use Rattle.vers_bits.proofs.bit_vec.BitVecHash.hash.Given as goal

abbrev pub invariant-loop-limb : goal.invariant-loop-limb
invariant-loop-limb g l = l.state ≡ fold g.H.Hasher.write l.initial.state (flat_map fed.u64 (take l.limb-index (limbs l.self)))
