use Rattle.vers_engine.proofs.Names.{◌≡◌, [], List, ℕ, false, Appends, Consumes, StandsAt}
use Rattle.vers_engine.proofs.engine.serve.Given as goal

abbrev pub invariant-reads : goal.invariant-reads
invariant-reads g l = record {
  read : List ℕ;
  written : List ℕ;
  consumed : Consumes (g.R.Read.remaining l.initial.reader.inner) (g.R.Read.remaining l.reader.inner) read;
  appended : Appends (g.W.Write.contents l.initial.writer.inner) (g.W.Write.contents l.writer.inner) written;
  gathered : l.session.answers.items ≡ [];
  stands : StandsAt g.S.Answerer.answering l.initial.session.store read written l.session.store l.session.pending.items;
  reader_fine : l.reader.has_failed ≡ false;
  writer_fine : l.writer.has_failed ≡ false;
}

abbrev pub decreases-reads : goal.decreases-reads
decreases-reads g l = l.reader.reads_left
