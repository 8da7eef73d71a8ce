use Rattle.vers_rmq.proofs.Names.{◌≡◌, ◌-◌, refl, arith, bit_at-zero}
use Rattle.vers_rmq.proofs.Minima.{least_at, least_ends}
use Rattle.vers_rmq.proofs.Masks.{prefix_more, prefix_skip, merged_one, none_above, few_bits, merged_none}
use Rattle.vers_rmq.proofs.rmq.fast_rmq.mask.more_prefixes.Goals as goal
use Rattle.vers_rmq.proofs.rmq.fast_rmq.mask.more_prefixes.Goals.{then-here-value, else-here-value}

pub loop-k-init : goal.loop-k-init
loop-k-init c = record { inside = c.requires.least; value = refl; few = λ q h. bit_at-zero q; made = λ first u. grind (arith, merged_none) }

pub loop-k-preserved : goal.loop-k-preserved
loop-k-preserved c = elim c.if-here-value.branch [
  | then-here-value w ↦ rw (w.bits-is, w.least-is, w.value-is) (record {
    inside = omega arith;
    value = refl;
    few = grind (arith, none_above);
    made = λ first u. prefix_more _ _ _ _ _ _ _ (c.loop-k.invariant.made first u) (omega (arith, w.if-here-value.true, c.loop-k.invariant.value))
        (merged_one _ _ _ _ _ _ (omega arith) w.with_one-bits.ensures);
  })
  | else-here-value w ↦ rw (w.bits-is, w.least-is, w.value-is) (record {
    inside = c.loop-k.invariant.inside;
    value = c.loop-k.invariant.value;
    few = λ q h. c.loop-k.invariant.few q (omega arith);
    made = λ first u. prefix_skip _ _ _ _ _ _ _ _ (omega arith) (c.loop-k.invariant.made first u)
        (least_ends _ _ _ _ _ (omega arith) (least_at _ c.loop-k.k)) (omega (arith, w.if-here-value.false, c.loop-k.invariant.value));
  })
]

pub with_bits-mask-requires-clause-room : goal.with_bits-mask-requires-clause-room
with_bits-mask-requires-clause-room c = few_bits _ (c.args.to - c.args.from) _ (omega arith) (λ q h. c.loop-k.invariant.few q (omega arith))

pub returns : goal.returns
returns c = λ first u. let e : c.loop-k.k ≡ c.args.to = omega arith in rw (c.with_bits-mask.ensures, ← e) (c.loop-k.invariant.made first u)
