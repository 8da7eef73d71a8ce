-- The laws that proofs of other crates may cite. A crate above imports this file and no other of this folder.
use Rattle.inverted.specs.Laws.{EachTermHasList, NumbersDetermineIndex}
use Rattle.inverted.proofs.NumberLists as NumberLists

pub each_term_has_list : EachTermHasList
each_term_has_list = NumberLists.each_term_has_list

pub numbers_determine_index : NumbersDetermineIndex
numbers_determine_index = NumberLists.numbers_determine_index
