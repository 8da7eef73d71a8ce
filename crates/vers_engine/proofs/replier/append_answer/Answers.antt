use Rattle.vers_engine.proofs.Names.{Result, Ok, Err, OnOk, sym, refl, append-nil}
use Rattle.vers_engine.specs.Replies.{answer_to_parts, holding_after_parts}
use Rattle.vers_engine.proofs.replier.append_answer.Goals as goal

-- what holds whatever a call gives
on_ok : {T E : Type 0} (r : Result T E) (P : Type 0) → P → OnOk r P
on_ok (Ok x) P p = p
on_ok (Err e) P p = tt

pub returns-in_default-clause-answer : goal.returns-in_default-clause-answer
unfolding answer_to_parts
returns-in_default-clause-answer g c = rw (← c.without_return.ensures, ← c.in_default.ensures.parts) (sym (append-nil _))

pub returns-in_default-clause-holds : goal.returns-in_default-clause-holds
unfolding holding_after_parts
returns-in_default-clause-holds g c = rw (← c.without_return.ensures, ← c.in_default.ensures.parts) refl

pub returns-clause-answer : goal.returns-clause-answer
unfolding answer_to_parts
returns-clause-answer g c = rw (← c.without_return.ensures, ← c.in-Some.ensures.parts, ← c.in_ok-reply.ensures.reply) c.append_line.ensures.text

pub returns-clause-holds : goal.returns-clause-holds
unfolding holding_after_parts
returns-clause-holds g c = rw (← c.without_return.ensures, ← c.in-Some.ensures.parts) (on_ok _ _ c.in_ok-reply.ensures.holds)
