use Rattle.vers_saved.proofs.Names.{arith}
use Rattle.vers_saved.proofs.words.row_is_padded.Goals as goal

pub overflow_mul-k : goal.overflow_mul-k
overflow_mul-k g c = rw c.div_ceil-limbs.ensures (omega (arith, c.requires.small))

pub overflow_add-k : goal.overflow_add-k
overflow_add-k g c = rw c.div_ceil-limbs.ensures (omega (arith, c.requires.small))

pub overflow_add-k-else-bits-eq0 : goal.overflow_add-k-else-bits-eq0
overflow_add-k-else-bits-eq0 g c = rw c.div_ceil-limbs.ensures (omega (arith, c.requires.small))
