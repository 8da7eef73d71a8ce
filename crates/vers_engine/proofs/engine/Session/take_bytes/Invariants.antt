use Rattle.vers_engine.proofs.Names.{◌≡◌, ◌++◌, [], List, ℕ, length, Ok, Appends, TakesOrFails}
use Rattle.vers_engine.proofs.engine.Session.take_bytes.Given as goal

abbrev pub invariant-loop-rest : goal.invariant-loop-rest
invariant-loop-rest g l = record {
  taken : List ℕ;
  parts : l.bytes ≡ taken ++ l.rest;
  text : List ℕ;
  appended : Appends (g.W.Write.contents l.initial.writer.inner) (g.W.Write.contents l.writer.inner) text;
  took : TakesOrFails g.S.Answerer.answering (Ok tt) l.initial.self.store l.initial.self.pending.items taken text l.self.store l.self.pending.items;
  gathered : l.self.answers.items ≡ [];
  fine : l.writer.has_failed ≡ l.initial.writer.has_failed;
}

abbrev pub decreases-loop-rest : goal.decreases-loop-rest
decreases-loop-rest g l = length l.rest
