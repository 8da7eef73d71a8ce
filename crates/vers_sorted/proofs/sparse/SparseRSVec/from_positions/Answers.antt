use Rattle.vers_sorted.proofs.Names.{length, ap, sym, ◌∙◌, length-positions, last_of}
use Rattle.vers_sorted.proofs.Ones.{ones_at-positions}
use Rattle.vers_sorted.proofs.SparseBits.{from_start, positions_ascend, sparse_positions}
use Rattle.vers_sorted.proofs.sparse.SparseRSVec.from_positions.Goals as goal

pub from_numbers-requires-clause-ascending : goal.from_numbers-requires-clause-ascending
from_numbers-requires-clause-ascending g c = rw (from_start c.args.bit c.args.bits.now) (positions_ascend c.args.bit c.args.bits.now)

pub from_numbers-requires-clause-len : goal.from_numbers-requires-clause-len
from_numbers-requires-clause-len g c = c.count_of-len.ensures ∙ sym (length-positions c.args.bit c.args.bits.now) ∙ ap length (sym (from_start c.args.bit c.args.bits.now))

pub from_numbers-requires-clause-last : goal.from_numbers-requires-clause-last
from_numbers-requires-clause-last g c = c.last_left-last.ensures ∙ c.last_start-from.ensures ∙ ap last_of (sym (from_start c.args.bit c.args.bits.now))

pub invariant_of-result : goal.invariant_of-result
invariant_of-result g c = rw (c.in_ok-from_numbers.ensures ∙ from_start c.args.bit c.args.bits.now, c.len.ensures.value) (sparse_positions c.args.bit c.args.bits.now)

pub returns : goal.returns
returns g c = rw (c.in_ok-from_numbers.ensures ∙ from_start c.args.bit c.args.bits.now, c.len.ensures.value) (ones_at-positions c.args.bit c.args.bits.now)
