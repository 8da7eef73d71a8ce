use Rattle.vers_sorted.proofs.Names.{ap, arith, length}
use Rattle.vers_sorted.proofs.Packed.{high_same}
use Rattle.vers_sorted.proofs.Passes.{count_used, word_fits, word_passed, word_read}
use Rattle.vers_sorted.proofs.elias_fano.EliasFanoVec.pass_word.Goals as goal

pub overflow_add-passed : goal.overflow_add-passed
overflow_add-passed g c =
    let packed = rw c.self.view_is at c.self.invariant in
    omega (arith, c.requires.passed.read.within, ap length (high_same packed))

pub bits_from-ahead-requires-clause-next : goal.bits_from-ahead-requires-clause-next
bits_from-ahead-requires-clause-next g c = count_used c.args.self.now c.args.passed.now c.requires.passed.read c.requires.used

pub overflow_add-end : goal.overflow_add-end
overflow_add-end g c =
    let packed = rw c.self.view_is at c.self.invariant in
    omega (arith, (word_fits c.args.self.now c.args.passed.now.next c.bits_from-ahead.result c.bits_from-ahead.ensures.read).1, ap length (high_same packed))

pub overflow_add-next : goal.overflow_add-next
overflow_add-next g c =
    let packed = rw c.self.view_is at c.self.invariant in
    let fits = word_fits c.args.self.now c.args.passed.now.next c.bits_from-ahead.result c.bits_from-ahead.ensures.read in
    omega (arith, fits.0, fits.1, ap length (high_same packed))

pub overflow_sub-end : goal.overflow_sub-end
overflow_sub-end g c = (word_fits c.args.self.now c.args.passed.now.next c.bits_from-ahead.result c.bits_from-ahead.ensures.read).0

pub returns-else-end-next-clause-passed : goal.returns-else-end-next-clause-passed
returns-else-end-next-clause-passed g c =
    let packed = rw c.self.view_is at c.self.invariant in
    let read = c.bits_from-ahead.ensures.read in
    record {
      few = word_passed c.args.self.now c.args.passed.now.next c.bits_from-ahead.result read c.args.v packed.ascending c.requires.from c.requires.passed.few
          (omega (arith, c.if-end-next.false, c.high_number.ensures.value));
      read = word_read c.args.self.now c.args.passed.now.next c.bits_from-ahead.result read;
    }
