use Rattle.sets.proofs.Uniqueness.{set_below_is_filter}
use Rattle.sets.proofs.laws.set_below_is_filter.Goals as goal

pub returns : goal.returns
returns c = set_below_is_filter
