use Rattle.vers_rmq.proofs.Names.{◌≡◌, arith}
use Rattle.vers_rmq.proofs.Masks.{suffix_alone, suffix_part}
use Rattle.vers_rmq.proofs.rmq.fast_rmq.mask.suffix_masks.Goals as goal

pub parts-init : goal.parts-init
parts-init c = record {
  low = omega arith;
  high = omega arith;
  aligned = omega arith;
  whole = c.part_suffixes-whole.ensures;
  parts = suffix_alone _ 16 _ _ _ _ _ (λ i h f. omega arith) c.part_suffixes-whole.ensures;
}

pub parts-preserved : goal.parts-preserved
parts-preserved c = record {
  low = omega arith;
  high = omega arith;
  aligned = omega arith;
  whole = c.suffixes_past-whole.ensures c.args.end c.parts.invariant.whole;
  parts = suffix_part _ _ _ _ _ _ _ _ (omega arith) (omega arith) (omega arith) c.parts.invariant.parts c.part_suffixes-part.ensures;
}

pub returns-clause-whole : goal.returns-clause-whole
returns-clause-whole c =
    let e : c.parts.at ≡ c.args.start = omega arith in
    rw e at (suffix_alone _ 128 _ _ _ _ _ (λ i h f. omega arith) c.parts.invariant.whole)

pub suffixes_past-whole-requires-clause-done : goal.suffixes_past-whole-requires-clause-done
suffixes_past-whole-requires-clause-done c = omega (arith, c.parts.invariant.whole.best.to)

pub suffixes_past-whole-requires-clause-least : goal.suffixes_past-whole-requires-clause-least
suffixes_past-whole-requires-clause-least c = c.part_suffixes-part.ensures.best

pub returns-clause-parts : goal.returns-clause-parts
returns-clause-parts c = let e : c.parts.at ≡ c.args.start = omega arith in rw e at c.parts.invariant.parts
