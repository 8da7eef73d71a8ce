use Rattle.vers_bits.proofs.Names.{arith}
use Rattle.vers_bits.proofs.Holds.{added_inside}
use Rattle.vers_bits.proofs.bit_vec.words.add_within.Goals as goal

pub returns : goal.returns
returns g c =
    rw c.or_into.ensures (added_inside _ _ _ _ c.requires.held c.requires.small c.requires.begun c.requires.room (omega (arith, c.requires.held.bounded)))
