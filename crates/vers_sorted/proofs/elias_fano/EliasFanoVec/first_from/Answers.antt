use Rattle.vers_sorted.proofs.Names.{◌≡◌, ap, ◌∙◌, arith, slice_index}
use Rattle.vers_sorted.proofs.Buckets.{start_below, below_end, in_bucket}
use Rattle.vers_sorted.proofs.elias_fano.EliasFanoVec.first_from.Goals as goal

pub returns-then-bucket-k-clause-value : goal.returns-then-bucket-k-clause-value
returns-then-bucket-k-clause-value g c =
    let end = below_end c.args.self.now c.args.v c.args.bucket.end c.len.ensures.ascending c.requires.from c.requires.bucket.end in
    let same : c.args.bucket.end ≡ c.args.k = omega (arith, end, c.requires.below) in
    c.element_past.ensures.value ∙ ap (slice_index c.args.self.now) same

pub with_low_part-requires-clause-high : goal.with_low_part-requires-clause-high
with_low_part-requires-clause-high g c =
    let start = start_below c.args.self.now c.args.v c.args.bucket.start c.len.ensures.ascending c.requires.from c.requires.bucket.start in
    in_bucket c.args.k c.requires.bucket (omega (arith, start, c.requires.below)) (omega arith) c.requires.more
