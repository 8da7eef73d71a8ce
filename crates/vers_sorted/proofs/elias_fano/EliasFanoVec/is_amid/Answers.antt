use Rattle.vers_sorted.proofs.Names.{arith, ◌+◌, ◌/◌}
use Rattle.vers_sorted.proofs.Elements.{read_is_element}
use Rattle.vers_sorted.proofs.elias_fano.EliasFanoVec.is_amid.Goals as goal

pub returns-clause-element : goal.returns-clause-element
returns-clause-element g c =
    read_is_element c.args.self.now c.args.v (c.args.bucket.start + c.saturating_sub-count.result / 2) c.with_low_part.result
    (omega (arith, c.requires.end.within, c.saturating_sub-count.ensures, c.if-count-lt-MANY.false)) c.with_low_part.ensures.value
