use Rattle.postings.proofs.Names.{◌∙◌, arith, below_le}
use Rattle.postings.proofs.Positions.{cheapest_none, cheapest_some}
use Rattle.postings.proofs.postings.Postings.cheapest_counted.Goals as goal

pub returns-then-start-end-clause-value : goal.returns-then-start-end-clause-value
returns-then-start-end-clause-value g c = grind (arith, cheapest_none)

pub range_min_counted-position-requires-clause-inside : goal.range_min_counted-position-requires-clause-inside
range_min_counted-position-requires-clause-inside g c = grind (arith, below_le)

pub returns-clause-value : goal.returns-clause-value
returns-clause-value g c =
    rw (← c.self.view_is) (c.get_counted.ensures.value
    ∙ cheapest_some _ c.args.from c.args.to c.range_min_counted-position.result c.rank_counted-start.ensures.ascending
    (omega (arith, c.if-start-end.false, c.rank_counted-start.ensures.value, c.up_to-end.ensures.value))
    (rw (← c.rank_counted-start.ensures.value, ← c.up_to-end.ensures.value) c.range_min_counted-position.ensures.value))
