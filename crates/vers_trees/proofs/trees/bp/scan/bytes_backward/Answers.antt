use Rattle.vers_trees.proofs.Names.{◌+◌, ◌-◌, arith, w64, to_z, of_z, to_z-of_z, adds_then}
use Rattle.vers_trees.proofs.searches.WordScans.{backward_word, read_some, byte_read, entry_ordered, backward_byte_found, backward_byte, rise_within}
use Rattle.vers_trees.proofs.trees.bp.scan.bytes_backward.Goals as goal

pub unwrap-word-requires : goal.unwrap-word-requires
unwrap-word-requires g c = read_some c.args.bits.now (c.loop-stop.stop - c.min-size.result) c.min-size.result _ c.get_bits_counted.ensures.value (omega arith) (omega arith)

pub position_met-requires : goal.position_met-requires
position_met-requires g c =
    let entry = c.met_backward.ensures _ (byte_read c.args.bits.now (c.loop-stop.stop - c.min-size.result) c.min-size.result (c.loop-within.within - 8) _ c.unwrap-word.result c.get_bits_counted.ensures.value c.unwrap-word.ensures (omega arith) (omega arith) (omega arith)) in
    let near = rise_within c.args.bits.now c.args.end (c.loop-stop.stop - c.min-size.result + c.loop-within.within) 9223372036854775799 _ c.loop-within.invariant.passed.risen (omega arith) (omega arith) in
    record { bounded = entry.bounded; ordered = entry_ordered _ _ _ entry; low = near.1; high = near.0 }

pub returns-in-Some-clause-value : goal.returns-in-Some-clause-value
returns-in-Some-clause-value g c =
    let byte = byte_read c.args.bits.now (c.loop-stop.stop - c.min-size.result) c.min-size.result (c.loop-within.within - 8) _ c.unwrap-word.result c.get_bits_counted.ensures.value c.unwrap-word.ensures (omega arith) (omega arith) (omega arith) in
    let s = c.in-Some.ensures in
    rw s.4 (rw (to_z-of_z w64 c.args.target c.ranges.target) at (backward_byte_found c.args.bits.now c.args.begin (c.loop-stop.stop - c.min-size.result + (c.loop-within.within - 8)) _ c.args.end (to_z w64 (of_z w64 c.args.target)) _ c.met_backward.result s.0 c.loop-within.invariant.passed (omega arith) (omega arith) (omega arith) c.requires.inside (c.met_backward.ensures _ byte) s.1 s.2 s.3))

pub overflow_sub-rise-in-loop-within : goal.overflow_sub-rise-in-loop-within
overflow_sub-rise-in-loop-within g c =
    let byte = byte_read c.args.bits.now (c.loop-stop.stop - c.min-size.result) c.min-size.result (c.loop-within.within - 8) _ c.unwrap-word.result c.get_bits_counted.ensures.value c.unwrap-word.ensures (omega arith) (omega arith) (omega arith) in
    (backward_byte c.args.bits.now (c.loop-stop.stop - c.min-size.result + (c.loop-within.within - 8)) _ c.args.end _ _ c.byte_step-rise.result c.met_backward.result _ c.loop-within.invariant.passed c.requires.short (omega arith) (omega arith) c.requires.inside byte c.met_backward.ensures c.in_default.ensures c.byte_step-rise.ensures).0

pub loop-within-preserved : goal.loop-within-preserved
loop-within-preserved g c =
    let byte = byte_read c.args.bits.now (c.loop-stop.stop - c.min-size.result) c.min-size.result (c.loop-within.within - 8) _ c.unwrap-word.result c.get_bits_counted.ensures.value c.unwrap-word.ensures (omega arith) (omega arith) (omega arith) in
    record {
      high = omega arith;
      whole = omega arith;
      passed = (backward_byte c.args.bits.now (c.loop-stop.stop - c.min-size.result + (c.loop-within.within - 8)) _ c.args.end _ _ c.byte_step-rise.result c.met_backward.result _ c.loop-within.invariant.passed c.requires.short (omega arith) (omega arith) c.requires.inside byte c.met_backward.ensures c.in_default.ensures c.byte_step-rise.ensures).1;
    }

pub stays_above_back-requires : goal.stays_above_back-requires
stays_above_back-requires g c = (rise_within c.args.bits.now c.args.end c.loop-stop.stop 9223372036854775743 _ c.loop-stop.invariant.passed.risen (omega arith) (omega arith)).1

pub overflow_sub-rise : goal.overflow_sub-rise
overflow_sub-rise g c =
    (backward_word c.args.bits.now (c.loop-stop.stop - c.min-size.result) c.loop-stop.stop _ c.args.end _ _ c.word_step-rise.result _ _ c.loop-stop.invariant.passed c.requires.short (omega arith) (omega arith) c.requires.inside c.if-size-eq64.true c.get_bits_counted.ensures.value c.unwrap-word.ensures (c.stays_above_back.ensures c.if-stays_above_back.true) c.word_step-rise.ensures).0

pub loop-stop-preserved-then-stays_above_back : goal.loop-stop-preserved-then-stays_above_back
loop-stop-preserved-then-stays_above_back g c = record {
  low = omega arith;
  high = omega arith;
  whole = omega arith;
  passed = (backward_word c.args.bits.now (c.loop-stop.stop - c.min-size.result) c.loop-stop.stop _ c.args.end _ _ c.word_step-rise.result _ _ c.loop-stop.invariant.passed c.requires.short (omega arith) (omega arith) c.requires.inside c.if-size-eq64.true c.get_bits_counted.ensures.value c.unwrap-word.ensures (c.stays_above_back.ensures c.if-stays_above_back.true) c.word_step-rise.ensures).1;
  reads = adds_then c.loop-stop.invariant.reads c.get_bits_counted.ensures.adds (grind arith);
}
