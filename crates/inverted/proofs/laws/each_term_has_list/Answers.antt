use Rattle.inverted.proofs.NumberLists.{each_term_has_list}
use Rattle.inverted.proofs.laws.each_term_has_list.Goals as goal

pub returns : goal.returns
returns c = each_term_has_list
