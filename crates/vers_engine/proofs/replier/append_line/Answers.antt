use Rattle.std.proofs.Common.{append_assoc}
use Rattle.vers_engine.proofs.replier.append_line.Goals as goal

pub returns-clause-text : goal.returns-clause-text
returns-clause-text g c = rw (c.in_ok-push.ensures.items, c.in_ok-append_to.ensures.text) (append_assoc c.args.answers.now.items _ _)
