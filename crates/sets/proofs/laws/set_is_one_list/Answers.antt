use Rattle.sets.proofs.Uniqueness.{set_is_one_list}
use Rattle.sets.proofs.laws.set_is_one_list.Goals as goal

pub returns : goal.returns
returns c = set_is_one_list
