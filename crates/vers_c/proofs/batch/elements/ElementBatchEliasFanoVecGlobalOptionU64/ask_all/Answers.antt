use Rattle.vers_c.proofs.Names.{map, slice_get, option_and_then, map-map, greatest_not_above, least_not_below, found_or_absent}
use Rattle.std.proofs.Common.{◌∙◌, ap}
use Rattle.vers_c.proofs.batch.elements.ElementBatchEliasFanoVecGlobalOptionU64.ask_all.Goals as goal

pub returns-in-At : goal.returns-in-At
returns-in-At c =
    rw c.in-At.is (ap (map found_or_absent) c.get_each.ensures.value ∙ map-map found_or_absent (option_and_then (slice_get c.args.elements.now)) c.args.numbers.now)

pub returns-in-Before : goal.returns-in-Before
returns-in-Before c =
    rw c.in-Before.is (ap (map found_or_absent) c.predecessor_each.ensures.value ∙ map-map found_or_absent (option_and_then (greatest_not_above c.args.elements.now)) c.args.numbers.now)

pub returns-in-After : goal.returns-in-After
returns-in-After c =
    rw c.in-After.is (ap (map found_or_absent) c.successor_each.ensures.value ∙ map-map found_or_absent (option_and_then (least_not_below c.args.elements.now)) c.args.numbers.now)
