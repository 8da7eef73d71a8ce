use Rattle.vers_rank.proofs.Names.{◌≡◌, ◌+◌, ◌*◌, ◌/◌, false, length, ap, ◌∙◌, arith, sym, block_count, count_none, count_le, count_past}
use Rattle.vers_rank.proofs.build.add_entries.Goals as goal

pub loop-block-init : goal.loop-block-init
loop-block-init g c = record {
  entries = rw (c.reserve_exact.ensures.items ∙ c.requires.blocks, c.reserve_exact-2.ensures.items ∙ c.requires.superblocks) (grind arith);
  zeros = sym (count_none false c.args.bits.now);
  base = λ h. absurd (omega arith);
}

pub overflow_add-zeros : goal.overflow_add-zeros
overflow_add-zeros g c = omega (arith, count_le)

pub returns-clause-entries : goal.returns-clause-entries
returns-clause-entries g c = let all : c.loop-block.block ≡ block_count 512 (length c.args.bits.now) = omega arith in rw all at c.loop-block.invariant.entries

pub returns-clause-zeros : goal.returns-clause-zeros
returns-clause-zeros g c = c.loop-block.invariant.zeros ∙ count_past false c.args.bits.now (512 * c.loop-block.block) (omega arith)

pub loop-block-preserved : goal.loop-block-preserved
loop-block-preserved g c = record {
  entries = c.in_ok-base.ensures.entries;
  zeros = ap (λ z. z + c.zeros_of_block-zeros.result) c.loop-block.invariant.zeros ∙ c.zeros_of_block-zeros.ensures.value;
  base = λ later.
      let same : c.loop-block.block / 16 ≡ (c.loop-block.block + 1) / 16 = omega (arith, later) in
      rw (← same) c.in_ok-base.ensures.base;
}
