use Rattle.vers_wavelet.proofs.Names.{◌≡◌, ◌+◌, ◌-◌, length, AddsAtMost, times, select_reads, superblock_count, final_position, Become, HasClimbed}
use Rattle.vers_wavelet.proofs.wavelet.batch.select.climb_each.Given as goal

abbrev pub invariant-loop-i : goal.invariant-loop-i
invariant-loop-i g l = record {
  risen : Become (λ q r. (r.rank ≡ q.rank) × (r.symbol ≡ q.symbol)
      × HasClimbed l.levels l.len r.symbol (final_position l.levels r.symbol 0 + r.rank) (length l.levels - l.i) r.answer) l.fn.queries l.queries;
  adds : AddsAtMost l.fn.tally l.tally (times l.i (times (length l.fn.queries) (select_reads (superblock_count l.len))));
}
