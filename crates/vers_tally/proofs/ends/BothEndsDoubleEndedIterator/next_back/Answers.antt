use Rattle.vers_bits.proofs.PublicLaws.{yields_last}
use Rattle.vers_tally.proofs.ends.BothEndsDoubleEndedIterator.next_back.Goals as goal

pub returns-clause-steps : goal.returns-clause-steps
returns-clause-steps g c = yields_last c.args.self.now.left c.next_back.result c.next_back.new.self.left c.next_back.ensures.steps
