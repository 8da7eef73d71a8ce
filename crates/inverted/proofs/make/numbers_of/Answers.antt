use Rattle.std.proofs.Common.{arith}
use Rattle.inverted.proofs.PairNumbers.{first_in_range, has_index, next_in_range, next_numbers, number_fits}
use Rattle.inverted.proofs.make.numbers_of.Goals as goal

pub overflow_add-pair : goal.overflow_add-pair
overflow_add-pair g c =
    let has = has_index c.args.terms c.args.universe (g.P.Pairs.left c.args.pairs) c.requires in
    omega (arith, (number_fits c.args.terms c.args.universe c.in-Some.pair has.fits (first_in_range c.args.terms c.args.universe c.loop-pair.invariant.in_range c.in-Some.ensures)).1)

pub loop-pair-preserved : goal.loop-pair-preserved
loop-pair-preserved g c = record {
  numbers = next_numbers c.args.terms c.args.universe c.loop-pair.invariant.in_range c.in-Some.ensures _ c.loop-pair.numbers.items c.push.new.self.items c.loop-pair.invariant.numbers c.in_ok-push.ensures.items;
  in_range = next_in_range c.args.terms c.args.universe c.loop-pair.invariant.in_range c.in-Some.ensures;
}
