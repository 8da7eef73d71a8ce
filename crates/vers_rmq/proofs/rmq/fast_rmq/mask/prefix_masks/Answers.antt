use Rattle.vers_rmq.proofs.Names.{◌≡◌, arith}
use Rattle.vers_rmq.proofs.Masks.{prefix_alone, prefix_part}
use Rattle.vers_rmq.proofs.rmq.fast_rmq.mask.prefix_masks.Goals as goal

pub parts-init : goal.parts-init
parts-init c = record {
  low = omega arith;
  high = omega arith;
  aligned = λ h. omega arith;
  whole = c.part_prefixes-whole.ensures;
  parts = prefix_alone _ 16 _ _ _ _ (λ j h. omega arith) c.part_prefixes-whole.ensures;
}

pub parts-preserved : goal.parts-preserved
parts-preserved c = record {
  low = omega arith;
  high = omega arith;
  aligned = λ h. omega (arith, c.parts.invariant.aligned c.parts-test.true);
  whole = c.prefixes_past-whole.ensures;
  parts = prefix_part _ _ _ _ _ _ _ (c.parts.invariant.aligned c.parts-test.true) (omega arith) c.parts.invariant.parts c.part_prefixes-part.ensures;
}

pub returns-clause-whole : goal.returns-clause-whole
returns-clause-whole c =
    let e : c.parts.at ≡ c.args.end = omega arith in
    rw e at (prefix_alone _ 128 _ _ _ _ (λ j h. omega arith) c.parts.invariant.whole)
