use Rattle.std.proofs.Common.{◌∙◌, ap, sym, arith, slice_index, slice_range}
use Rattle.std.proofs.lemmas.List.{length-set}
use Rattle.vers_c.specs.Texts.{pattern_at}
use Rattle.vers_c.proofs.Counted.{one_more, start_more}
use Rattle.vers_c.proofs.counts.collect.Goals as goal

pub loop-k-preserved : goal.loop-k-preserved
loop-k-preserved c = record {
  long = length-set c.loop-k.patterns c.loop-k.k _ ∙ c.loop-k.invariant.long;
  from = sym (start_more c.args.start c.args.ends.now c.loop-k.k);
  done = one_more (λ p. p.now) c.loop-k.patterns (pattern_at c.args.symbols.now c.args.start c.args.ends.now) _ c.loop-k.k _ (omega (arith, c.loop-k.invariant.long, c.requires.room, c.loop-k-test.true)) c.loop-k.invariant.done
      (ap (λ from. slice_range c.args.symbols.now from (slice_index c.args.ends.now c.loop-k.k)) c.loop-k.invariant.from);
}
