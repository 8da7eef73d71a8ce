use Rattle.postings.proofs.Sharing.{SharedUpTo}
use Rattle.postings.proofs.queries.common_documents.Given as goal

abbrev pub invariant-loop : goal.invariant-loop
invariant-loop g l = SharedUpTo l.shorter l.longer l.found.items l.documents l.fn.tally l.tally l.counter
