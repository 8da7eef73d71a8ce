use Rattle.vers_rank.proofs.Selects.{block_half}
use Rattle.vers_rank.proofs.fast_rs_vec.RsVec.half_of_block.Goals as goal

pub returns-then-before-r-clause-found : goal.returns-then-before-r-clause-found
returns-then-before-r-clause-found g c =
    rw c.held_of-before.ensures ((block_half c.args.bit c.args.self.now c.args.block c.args.r c.args.two c.requires.two c.requires.few.1).0 (rw c.held_of-before.ensures at c.if-before-r.true))

pub returns-else-before-r-clause-found : goal.returns-else-before-r-clause-found
returns-else-before-r-clause-found g c =
    (block_half c.args.bit c.args.self.now c.args.block c.args.r c.args.two c.requires.two c.requires.few.1).1 (rw c.held_of-before.ensures at c.if-before-r.false)
