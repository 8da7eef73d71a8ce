use Rattle.inverted.proofs.NumberLists.{numbers_determine_index}
use Rattle.inverted.proofs.laws.numbers_determine_index.Goals as goal

pub returns : goal.returns
returns c = numbers_determine_index
