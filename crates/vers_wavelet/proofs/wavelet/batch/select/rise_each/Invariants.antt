use Rattle.vers_wavelet.proofs.Names.{◌≡◌, ◌-◌, ◌≤◌, AddsAtMost, times, select_reads, superblock_count, IsClimbing, no_query}
use Rattle.vers_rank.specs.Batches.{Changed}
use Rattle.vers_wavelet.proofs.wavelet.batch.select.rise_each.Given as goal

abbrev pub invariant-loop-from : goal.invariant-loop-from
invariant-loop-from g l = record {
  within : l.from ≤ l.many;
  changed : Changed no_query (λ q r. (r.rank ≡ q.rank) × (r.symbol ≡ q.symbol) × IsClimbing l.levels l.len l.k r) 0 l.from l.fn.queries l.queries;
  adds : AddsAtMost l.fn.tally l.tally (times l.from (select_reads (superblock_count l.len)));
}

abbrev pub decreases-loop-from : goal.decreases-loop-from
decreases-loop-from g l = l.many - l.from
