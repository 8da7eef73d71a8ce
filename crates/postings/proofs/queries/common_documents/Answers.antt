use Rattle.postings.proofs.Names.{refl, sym, ◌∙◌, arith, append-nil}
use Rattle.postings.proofs.Sharing.{shared_start, shared_more, stopped_within, ended_within, never_ends}
use Rattle.postings.proofs.queries.common_documents.Goals.{then-has_counted+in_ok-push, else-has_counted, else-loop-test, then-loop-test+in_default}
use Rattle.postings.proofs.queries.common_documents.Goals as goal

pub loop-init : goal.loop-init
loop-init g c = shared_start c.args.shorter.now c.args.longer.now c.new-found.result.items c.iter-documents.result c.args.tally.now c.new-found.ensures.items c.iter-documents.ensures.value

pub returns-in_err-push-clause-adds : goal.returns-in_err-push-clause-adds
returns-in_err-push-clause-adds g c =
    stopped_within c.args.shorter.now c.args.longer.now c.loop.found.items c.loop.documents c.args.tally.now c.loop.tally c.next_counted.new.tally c.has_counted.new.tally c.loop.counter
    c.loop.invariant (omega (arith, c.loop-test.true, c.len-end.ensures.value)) c.next_counted.ensures.adds c.has_counted.ensures.adds

pub loop-preserved : goal.loop-preserved
loop-preserved g c =
    shared_more c.args.shorter.now c.args.longer.now c.loop.found.items c.if-has_counted.found.items c.loop.documents c.next_counted.new.self
    c.args.tally.now c.loop.tally c.next_counted.new.tally c.has_counted.new.tally c.loop.counter c.in-Some.document c.has_counted.result
    c.loop.invariant (omega (arith, c.loop-test.true, c.len-end.ensures.value)) c.in-Some.ensures.steps c.next_counted.ensures.same_step c.next_counted.ensures.adds
    c.has_counted.ensures.value c.has_counted.ensures.adds
    (elim c.if-has_counted.branch [
      | then-has_counted+in_ok-push w ↦ rw (w.found-is, w.in_ok-push.ensures.items, w.if-has_counted.true) refl
      | else-has_counted w ↦ rw (w.found-is, w.if-has_counted.false) (sym (append-nil c.loop.found.items))
    ])

pub returns-clause-adds : goal.returns-clause-adds
returns-clause-adds g c =
    elim c.loop-test.branch [
      | else-loop-test w ↦ rw w.tally-is (ended_within c.args.shorter.now c.args.longer.now c.loop.found.items c.loop.documents c.args.tally.now c.loop.tally c.loop.counter
          c.loop.invariant (omega (arith, c.loop.auto.counter-end, c.len-end.ensures.value)))
      | then-loop-test+in_default w ↦ absurd (never_ends c.args.shorter.now c.loop.documents.left c.loop.counter c.loop.invariant.to_come (omega (arith, w.loop-test.true, c.len-end.ensures.value))
          (sym w.next_counted.ensures.steps.given ∙ w.in_default.is))
    ]
