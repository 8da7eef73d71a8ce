use Rattle.vers_wavelet.proofs.Names.{◌≡◌, IsClimbing, no_query}
use Rattle.vers_rank.specs.Batches.{Changed}
use Rattle.vers_wavelet.proofs.wavelet.batch.select.rise_group.Given as goal

abbrev pub invariant-loop-j : goal.invariant-loop-j
invariant-loop-j g l = Changed no_query (λ q r. (r.rank ≡ q.rank) × (r.symbol ≡ q.symbol) × IsClimbing l.levels l.len l.k r) l.from l.j l.fn.queries l.queries
