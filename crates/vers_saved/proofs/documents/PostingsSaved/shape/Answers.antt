use Rattle.vers_saved.proofs.Names.{arith}
use Rattle.vers_saved.proofs.PostingLists.{whole_postings}
use Rattle.vers_saved.proofs.documents.PostingsSaved.shape.Goals as goal

pub returns-clause-whole : goal.returns-clause-whole
returns-clause-whole g c =
    whole_postings c.args.self.now (omega (arith, c.if-count-gt-MAX_LEN.false, c.len-count.ensures.value)) c.len-count.ensures.paired (rw c.costs.ensures at c.are_words.ensures)
