use Rattle.vers_rmq.proofs.Names.{◌≡◌, ◌-◌, refl, arith, bit_at-zero}
use Rattle.vers_rmq.proofs.Minima.{least_at, least_ends}
use Rattle.vers_rmq.proofs.Masks.{suffix_more, suffix_skip, merged_one, none_above, few_bits, merged_none}
use Rattle.vers_rmq.proofs.rmq.fast_rmq.mask.more_suffixes.Goals as goal

pub down-init : goal.down-init
down-init c = record {
  low = c.requires.order;
  high = omega arith;
  inside = c.requires.least;
  value = refl;
  few = λ q h. bit_at-zero q;
  made = λ end u. grind (arith, merged_none);
}

pub down-preserved-then-here-value : goal.down-preserved-then-here-value
down-preserved-then-here-value c = record {
  low = omega arith;
  high = omega arith;
  inside = omega arith;
  value = refl;
  few = grind (arith, none_above);
  made = λ end u. suffix_more _ _ _ _ _ _ _ _ (omega arith) (omega arith) (c.down.invariant.made end u)
      (omega (arith, c.if-here-value.true, c.down.invariant.value)) (merged_one _ _ _ _ _ _ (omega arith) c.with_one-bits.ensures);
}

pub down-preserved : goal.down-preserved
down-preserved c = record {
  low = omega arith;
  high = omega arith;
  inside = c.down.invariant.inside;
  value = c.down.invariant.value;
  few = c.down.invariant.few;
  made = λ end u. suffix_skip _ _ _ _ _ _ _ _ (omega arith) (omega arith) (c.down.invariant.made end u)
      (least_ends _ _ _ _ _ (omega arith) (least_at _ (c.down.k - 1))) (omega (arith, c.if-here-value.false, c.down.invariant.value));
}

pub with_bits-mask-requires-clause-room : goal.with_bits-mask-requires-clause-room
with_bits-mask-requires-clause-room c = few_bits _ (c.args.to - c.args.from) _ (omega arith) (λ q h. c.down.invariant.few q (omega arith))

pub returns : goal.returns
returns c = λ end u. let e : c.down.k ≡ c.args.from = omega arith in rw c.with_bits-mask.ensures (rw e at (c.down.invariant.made end u))
