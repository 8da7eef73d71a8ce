use Rattle.std.proofs.Common.{false}
use Rattle.vers_sorted.proofs.PublicLaws.{in_order_up}
use Rattle.vers_sorted_tests.proofs.tests.parts.made_of.Goals as goal

pub from_parts-requires : goal.from_parts-requires
from_parts-requires g c =
    let found = c.are_parts.ensures.yes c.if-not-are_parts.false in
    (found.0, in_order_up false found.0 found.1, found.2)
