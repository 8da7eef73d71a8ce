use Rattle.std.proofs.Common.{◌≡◌, map, take}
use Rattle.inverted.specs.Lists.{term_of}
use Rattle.inverted.proofs.operations.lists_of.Given as goal

abbrev pub invariant-loop-term : goal.invariant-loop-term
invariant-loop-term g l = l.lists.items ≡ map (term_of l.index) (take l.term-index l.terms)
