use Rattle.vers_trees.proofs.Names.{w64, sym, bit_at-trailing_zeros}
use Rattle.vers_trees.proofs.layout.Steps.{zeros_below}
use Rattle.vers_trees.proofs.trees.bp.min_max.odd_part.Goals as goal

pub returns : goal.returns
returns c = let lowest = bit_at-trailing_zeros w64 c.args.number c.requires c.ranges.number.fits in record { zeros = _; splits = sym (zeros_below _ c.args.number lowest.2); ends = lowest.1 }
