use Rattle.vers_trees.proofs.Names.{◌+◌, arith, w64, to_z, of_z, to_z-of_z, adds_then}
use Rattle.vers_trees.proofs.searches.WordScans.{forward_word, read_some, byte_read, entry_ordered, forward_byte_found, forward_byte, rise_within}
use Rattle.vers_trees.proofs.trees.bp.scan.bytes_forward.Goals as goal

pub unwrap-word-requires : goal.unwrap-word-requires
unwrap-word-requires g c = read_some c.args.bits.now c.loop-start.start c.min-size.result _ c.get_bits_counted.ensures.value (omega arith) (omega arith)

pub position_met-requires : goal.position_met-requires
position_met-requires g c =
    let entry = c.met_forward.ensures _ (byte_read c.args.bits.now c.loop-start.start c.min-size.result c.loop-within.within _ c.unwrap-word.result c.get_bits_counted.ensures.value c.unwrap-word.ensures (omega arith) (omega arith) (omega arith)) in
    let near = rise_within c.args.bits.now c.args.begin (c.loop-start.start + c.loop-within.within) 9223372036854775799 _ c.loop-within.invariant.passed.risen (omega arith) (omega arith) in
    record { bounded = entry.bounded; ordered = entry_ordered _ _ _ entry; low = near.1; high = near.0 }

pub returns-in-Some-clause-value : goal.returns-in-Some-clause-value
returns-in-Some-clause-value g c =
    let byte = byte_read c.args.bits.now c.loop-start.start c.min-size.result c.loop-within.within _ c.unwrap-word.result c.get_bits_counted.ensures.value c.unwrap-word.ensures (omega arith) (omega arith) (omega arith) in
    let s = c.in-Some.ensures in
    rw s.4 (rw (to_z-of_z w64 c.args.target c.ranges.target) at (forward_byte_found c.args.bits.now c.args.begin (c.loop-start.start + c.loop-within.within) c.args.end (to_z w64 (of_z w64 c.args.target)) _ c.met_forward.result s.0 c.loop-within.invariant.passed (omega arith) (omega arith) c.requires.inside (c.met_forward.ensures _ byte) s.1 s.2 s.3))

pub overflow_add-rise-in-loop-within : goal.overflow_add-rise-in-loop-within
overflow_add-rise-in-loop-within g c =
    let byte = byte_read c.args.bits.now c.loop-start.start c.min-size.result c.loop-within.within _ c.unwrap-word.result c.get_bits_counted.ensures.value c.unwrap-word.ensures (omega arith) (omega arith) (omega arith) in
    (forward_byte c.args.bits.now c.args.begin _ (c.loop-start.start + (c.loop-within.within + 8)) _ _ c.byte_step-rise.result c.met_forward.result _ c.loop-within.invariant.passed c.requires.short (omega arith) (omega arith) (omega arith) byte c.met_forward.ensures c.in_default.ensures c.byte_step-rise.ensures).0

pub loop-within-preserved : goal.loop-within-preserved
loop-within-preserved g c =
    let byte = byte_read c.args.bits.now c.loop-start.start c.min-size.result c.loop-within.within _ c.unwrap-word.result c.get_bits_counted.ensures.value c.unwrap-word.ensures (omega arith) (omega arith) (omega arith) in
    record {
      high = omega arith;
      whole = omega arith;
      passed = (forward_byte c.args.bits.now c.args.begin _ (c.loop-start.start + (c.loop-within.within + 8)) _ _ c.byte_step-rise.result c.met_forward.result _ c.loop-within.invariant.passed c.requires.short (omega arith) (omega arith) (omega arith) byte c.met_forward.ensures c.in_default.ensures c.byte_step-rise.ensures).1;
    }

pub stays_above-requires : goal.stays_above-requires
stays_above-requires g c = (rise_within c.args.bits.now c.args.begin c.loop-start.start 9223372036854775743 _ c.loop-start.invariant.passed.risen (omega arith) (omega arith)).1

pub overflow_add-rise : goal.overflow_add-rise
overflow_add-rise g c =
    (forward_word c.args.bits.now c.args.begin c.loop-start.start (c.loop-start.start + c.min-size.result) _ _ _ c.word_step-rise.result _ _ c.loop-start.invariant.passed c.requires.short (omega arith) (omega arith) (omega arith) c.if-size-eq64.true c.get_bits_counted.ensures.value c.unwrap-word.ensures (c.stays_above.ensures c.if-stays_above.true) c.word_step-rise.ensures).0

pub loop-start-preserved-then-stays_above : goal.loop-start-preserved-then-stays_above
loop-start-preserved-then-stays_above g c = record {
  low = omega arith;
  high = omega arith;
  whole = omega arith;
  passed = (forward_word c.args.bits.now c.args.begin c.loop-start.start (c.loop-start.start + c.min-size.result) _ _ _ c.word_step-rise.result _ _ c.loop-start.invariant.passed c.requires.short (omega arith) (omega arith) (omega arith) c.if-size-eq64.true c.get_bits_counted.ensures.value c.unwrap-word.ensures (c.stays_above.ensures c.if-stays_above.true) c.word_step-rise.ensures).1;
  reads = adds_then c.loop-start.invariant.reads c.get_bits_counted.ensures.adds (grind arith);
}
