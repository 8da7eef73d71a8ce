-- What the neighbours of a position are, by counts and selects.
use Rattle.vers_bits.proofs.PublicLaws.{position_after_some, position_after_none, position_after_past, position_before_some, position_before_none}

pub ruleset neighbours = (position_after_some, position_after_none, position_after_past, position_before_some, position_before_none)
