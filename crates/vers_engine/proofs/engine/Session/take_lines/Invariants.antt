use Rattle.vers_engine.proofs.Names.{◌≡◌, ◌≤◌, ◌-◌, ◌++◌, List, ℕ, length, take, Ok, TakesOrFails}
use Rattle.vers_engine.proofs.engine.Session.take_lines.Given as goal

abbrev pub invariant-loop-taken : goal.invariant-loop-taken
invariant-loop-taken g l = record {
  within : l.taken ≤ length l.bytes;
  text : List ℕ;
  gathered : l.self.answers.items ≡ l.initial.self.answers.items ++ text;
  took : TakesOrFails g.S.Answerer.answering (Ok tt) l.initial.self.store l.initial.self.pending.items (take l.taken l.bytes) text l.self.store l.self.pending.items;
  first : l.taken ≡ 0 → l.self.answers.items ≡ l.initial.self.answers.items;
}

abbrev pub decreases-loop-taken : goal.decreases-loop-taken
decreases-loop-taken g l = length l.bytes - l.taken
