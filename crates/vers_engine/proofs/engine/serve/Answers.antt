use Rattle.vers_engine.proofs.Names.{◌≡◌, ◌++◌, ◌<◌, ◌||◌, [], length, false, take, refl, rules, ap, ◌∙◌, arith, err_from_is_err_and, lines_of, append-nil}
use Rattle.std.proofs.KnownBytes.{Appends-nil, Appends-trans, Consumes-nil, Consumes-trans, Consumes-kept}
use Rattle.vers_engine.proofs.Ends.{ends, breaks}
use Rattle.vers_engine.proofs.Steps.{whole_lines-IsSplit}
use Rattle.vers_engine.proofs.engine.serve.Goals as goal

pub reads-init : goal.reads-init
reads-init g c = record {
  read = [];
  written = [];
  consumed = Consumes-nil _;
  appended = Appends-nil _;
  gathered = c.requires.answers;
  stands = rw c.requires.pending
      (record { lines = []; split = record { joined = refl; parts_lack = search rules; rest_lacks = search rules }; answered = refl; holds = refl });
  reader_fine = c.requires.reader;
  writer_fine = c.requires.writer;
}

pub returns-in-Ok-eq0-clause-answers : goal.returns-in-Ok-eq0-clause-answers
returns-in-Ok-eq0-clause-answers g c =
    let i = c.reads.invariant in
    let b = c.in-Ok-eq0.ensures.bytes in
    let w = c.finish.ensures.written in
    let zero : c.in-Ok-eq0.field-0 ≡ 0 = omega arith in
    let room : 0 < length c.read.new.buf = omega arith in
    let none = rw zero at b.0 in
    let e = ends g.S.Answerer.answering c.args.session.now.store c.finish.result _ _ _ w.0 i.read i.written (b.1 zero room) i.stands w.2 in (
      i.read,
      i.written ++ w.0,
      lines_of i.read,
      rw append-nil at (Consumes-trans _ _ _ _ _ i.consumed none),
      Appends-trans _ _ _ _ _ i.appended w.1,
      e.0,
      e.1,
    )

pub returns-in_err-take_bytes-in-Ok-clause-answers : goal.returns-in_err-take_bytes-in-Ok-clause-answers
returns-in_err-take_bytes-in-Ok-clause-answers g c =
    let i = c.reads.invariant in
    let b = c.in-Ok.ensures.bytes in
    let w = c.in_err-take_bytes-in-Ok.ensures.written in
    let p = err_from_is_err_and c.from_residual.result c.from_residual.ensures.1 in
    let bs = take c.in-Ok.n c.read.new.buf in
    let s = c.reads.session in
    let k = breaks g.S.Answerer.answering c.args.session.now.store c.in_err-take_bytes-in-Ok.field-0.0 (g.R.Read.remaining c.read.new.self.inner) s.store s.pending.items bs w.0 s.store s.pending.items i.read i.written i.stands w.2 in
    rw (p.1, p.2) (i.read ++ bs, i.written ++ w.0, k.0, Consumes-trans _ _ _ _ _ i.consumed b.0, Appends-trans _ _ _ _ _ i.appended w.1, k.1, k.2)

pub returns-in-Err-clause-answers : goal.returns-in-Err-clause-answers
returns-in-Err-clause-answers g c = grind (arith, whole_lines-IsSplit, Consumes-kept)

pub reads-preserved : goal.reads-preserved
reads-preserved g c =
    let i = c.reads.invariant in
    let b = c.in-Ok.ensures.bytes in
    let w = c.in_ok-take_bytes-in-Ok.ensures.written in
    record {
      read = i.read ++ take c.in-Ok.n c.read.new.buf;
      written = i.written ++ w.0;
      consumed = Consumes-trans _ _ _ _ _ i.consumed b.0;
      appended = Appends-trans _ _ _ _ _ i.appended w.1;
      gathered = c.in_ok-take_bytes-in-Ok.ensures.answers;
      stands = w.2 c.args.session.now.store i.read i.written i.stands;
      reader_fine = c.in-Ok.ensures.failed ∙ ap (λ b. b || false) i.reader_fine;
      writer_fine = c.in_ok-take_bytes-in-Ok.ensures.fault ∙ i.writer_fine;
    }
