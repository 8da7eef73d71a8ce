-- The lemmas that the laws state.
use Rattle.vers_bits.proofs.Names.{take-append-drop}
use Rattle.vers_bits.proofs.LowBits.{length-low_bits, number-low_bits, low_bits-add, low_bits_of_rest, low_bits_of_number}
use Rattle.vers_bits.proofs.Packed.{packed_element}
use Rattle.vers_bits.proofs.Zips.{get_or-zip_bits, masked-or, masked-and, masked-xor}
use Rattle.vers_bits.proofs.Count.{count_both, count_up, count_to, count_le}
use Rattle.vers_bits.proofs.Positions.{select_past}
use Rattle.vers_bits.proofs.PositionSums.{number-positions}
use Rattle.vers_bits.proofs.Neighbours.{next_position, none_up, none_down}
use Rattle.vers_bits.proofs.BothEnds.{passes_each_once, stays_ended, next_is_nth_of_zero, next_back_is_nth_back_of_zero}

pub ruleset laws = (take-append-drop, length-low_bits, number-low_bits, low_bits-add, low_bits_of_rest, low_bits_of_number, number-positions, packed_element, get_or-zip_bits, masked-or, masked-and, masked-xor, count_both, count_up, count_to, count_le, select_past, next_position, none_up, none_down, passes_each_once, stays_ended, next_is_nth_of_zero, next_back_is_nth_back_of_zero)
