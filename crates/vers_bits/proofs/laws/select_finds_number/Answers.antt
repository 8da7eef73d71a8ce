use Rattle.vers_bits.proofs.Positions.{select_is_position}
use Rattle.vers_bits.proofs.laws.select_finds_number.Goals as goal

pub returns : goal.returns
returns c = λ b l r some. let at = select_is_position b l r some in (at.before, at.holds)
