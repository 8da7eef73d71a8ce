use Rattle.postings.proofs.Names.{◌≡◌, List, ℕ, length, nat_le, subst, ◌∙◌, Reads, AddsAtMost, common, lookups}
use Rattle.postings.proofs.Elements.{common_either}
use Rattle.postings.proofs.Sharing.{either_first, same_either_way}
use Rattle.postings.proofs.postings.Postings.intersect_counted.Goals as goal

pub returns-clause-value : goal.returns-clause-value
returns-clause-value g c =
    let one : List ℕ = c.self.inside.documents in
    let other : List ℕ = c.other.inside.documents in
    let is_shorter = nat_le (length one) (length other) in
    let e : common c.by_length.result.0.now c.by_length.result.1.now ≡ common one other =
    either_first common is_shorter one other _ _ c.by_length.ensures.shorter c.by_length.ensures.longer
    ∙ same_either_way is_shorter _ _ (common_either one other c.self.invariant.ascending c.other.invariant.ascending) in
    rw (← c.self.view_is, ← c.other.view_is, ← e) c.common_documents.ensures.value

pub returns-clause-adds : goal.returns-clause-adds
returns-clause-adds g c =
    let one : List ℕ = c.self.inside.documents in
    let other : List ℕ = c.other.inside.documents in
    let e = either_first lookups (nat_le (length one) (length other)) one other _ _ c.by_length.ensures.shorter c.by_length.ensures.longer in
    rw (← c.self.view_is, ← c.other.view_is) (subst (λ (most : Reads). AddsAtMost c.args.tally.now c.common_documents.new.tally most) e c.common_documents.ensures.adds)
