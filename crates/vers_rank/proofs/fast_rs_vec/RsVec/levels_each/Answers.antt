use Rattle.vers_rank.proofs.Names.{rules, adds_then, within_itself, StandsFor}
use Rattle.vers_rank.proofs.PublicLaws.{changed_then}
use Rattle.vers_rank.proofs.Batches.{takes}
use Rattle.vers_rank.proofs.fast_rs_vec.RsVec.levels_each.Goals as goal

pub level_each-requires-clause-each : goal.level_each-requires-clause-each
level_each-requires-clause-each g c = λ j h. tt

pub level_each-requires-2-clause-each : goal.level_each-requires-2-clause-each
level_each-requires-2-clause-each g c = λ j h. takes 8192 _ c.args.self.now _ _ (c.level_each.ensures.value.each j h)

pub level_each-requires-3-clause-each : goal.level_each-requires-3-clause-each
level_each-requires-3-clause-each g c = λ j h. takes 512 _ c.args.self.now _ _ (c.level_each-2.ensures.value.each j h _ (c.level_each.ensures.value.each j h))

pub level_each-requires-4-clause-each : goal.level_each-requires-4-clause-each
level_each-requires-4-clause-each g c = λ j h. takes 64 _ c.args.self.now _ _ (c.level_each-3.ensures.value.each j h _ (c.level_each-2.ensures.value.each j h _ (c.level_each.ensures.value.each j h)))

pub returns-clause-value : goal.returns-clause-value
returns-clause-value g c =
    let l = c.args.self.now in
    let two = changed_then {T = StandsFor 512 _ l} c.level_each.ensures.value c.level_each-2.ensures.value (λ x y z is leads. leads x is) in
    let three = changed_then {T = StandsFor 64 _ l} two c.level_each-3.ensures.value (λ x y z is leads. leads x is) in
    changed_then three c.level_each-4.ensures.value (λ x y z is leads. leads x is)

pub returns-clause-adds : goal.returns-clause-adds
returns-clause-adds g c =
    let two = adds_then c.level_each.ensures.adds c.level_each-2.ensures.adds (within_itself _) in
    let three = adds_then two c.level_each-3.ensures.adds (within_itself _) in
    adds_then three c.level_each-4.ensures.adds (search rules)
