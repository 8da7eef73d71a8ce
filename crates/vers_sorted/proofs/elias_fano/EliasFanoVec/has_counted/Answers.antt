use Rattle.vers_sorted.proofs.Names.{sym, arith}
use Rattle.vers_sorted.proofs.Buckets.{start_below, in_bucket}
use Rattle.vers_sorted.proofs.Membership.{not_element}
use Rattle.vers_sorted.proofs.Elements.{none_past, none_above, all_less}
use Rattle.vers_sorted.proofs.elias_fano.EliasFanoVec.has_counted.Goals as goal

pub returns-then-len-eq0-clause-value : goal.returns-then-len-eq0-clause-value
returns-then-len-eq0-clause-value g c =
    sym (not_element c.args.self.now c.args.v (λ k inside same. absurd (omega (arith, inside, c.len.ensures.value, c.if-len-eq0.true))))

pub returns-then-v-first-clause-value : goal.returns-then-v-first-clause-value
returns-then-v-first-clause-value g c =
    sym (none_above c.args.self.now c.args.v c.len.ensures.ascending (omega arith))

pub returns-then-v-last-clause-value : goal.returns-then-v-last-clause-value
returns-then-v-last-clause-value g c =
    sym (all_less c.args.self.now c.args.v c.len.ensures.ascending (omega arith))

pub returns-then-k-bucket-clause-value : goal.returns-then-k-bucket-clause-value
returns-then-k-bucket-clause-value g c =
    sym (none_past c.args.self.now c.args.v c.below_in-k.result c.bucket_of-bucket.result c.len.ensures.ascending c.below_in-k.ensures.value c.bucket_of-bucket.ensures.bucket (omega arith))

pub with_low_part-requires-clause-high : goal.with_low_part-requires-clause-high
with_low_part-requires-clause-high g c =
    let bucket = c.bucket_of-bucket.ensures.bucket in
    let start = start_below c.args.self.now c.args.v c.bucket_of-bucket.result.start c.len.ensures.ascending (omega arith) bucket.start in
    in_bucket c.below_in-k.result bucket (omega (arith, start, c.below_in-k.ensures.value)) (omega arith) (omega (arith, bucket.end.within))
