use Rattle.vers_sorted.proofs.Names.{◌≡◌, ◌-◌, ap, ◌∙◌, arith, slice_index}
use Rattle.vers_sorted.proofs.Below.{below_le}
use Rattle.vers_sorted.proofs.Buckets.{start_below, below_end, in_bucket}
use Rattle.vers_sorted.proofs.elias_fano.EliasFanoVec.last_below.Goals as goal

pub returns-then-k-bucket-clause-value : goal.returns-then-k-bucket-clause-value
returns-then-k-bucket-clause-value g c =
    let start = start_below c.args.self.now c.args.v c.args.bucket.start c.len.ensures.ascending c.requires.from c.requires.bucket.start in
    let same : c.args.bucket.start - 1 ≡ c.args.k - 1 = omega (arith, start, c.requires.below) in
    c.element_before.ensures.value ∙ ap (slice_index c.args.self.now) same

pub with_low_part-requires-clause-high : goal.with_low_part-requires-clause-high
with_low_part-requires-clause-high g c =
    let end = below_end c.args.self.now c.args.v c.args.bucket.end c.len.ensures.ascending c.requires.from c.requires.bucket.end in
    in_bucket (c.args.k - 1) c.requires.bucket (omega arith) (omega (arith, end, c.requires.below, c.requires.some)) (omega (arith, c.requires.below, c.requires.some, below_le c.args.self.now c.args.v))
