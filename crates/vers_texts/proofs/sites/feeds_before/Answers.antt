use Rattle.std.proofs.Common.{ltb, sym, ◌∙◌, arith, rules, inl, inr}
use Rattle.std.proofs.lemmas.Bool.{cases_lt, le-ltb, lt-ltb}
use Rattle.std.proofs.lemmas.List.Sorted.{IsPartitionPoint-from_clause, IsPartitionedBy-ltb}
use Rattle.vers_texts.proofs.Feeds.{count_split}
use Rattle.vers_texts.proofs.sites.feeds_before.Goals as goal

pub returns : goal.returns
returns c =
    let parted = IsPartitionedBy-ltb (λ y. y) c.args.feeds.now c.args.position c.requires in
    let point = IsPartitionPoint-from_clause (λ y. ltb y c.args.position) c.args.feeds.now c.partition_point.result c.partition_point.ensures.partitioned parted (λ a r q k. search rules) in
    sym (count_split (λ y. ltb y c.args.position) c.args.feeds.now c.partition_point.result c.partition_point.ensures.bound (λ k inside. elim (cases_lt k c.partition_point.result) [
      | inl less ↦ point.0 k 0 (omega arith) less ∙ sym (lt-ltb _ _ less)
      | inr more ↦ point.1 k 0 more inside ∙ sym (le-ltb _ _ more)
    ]))
