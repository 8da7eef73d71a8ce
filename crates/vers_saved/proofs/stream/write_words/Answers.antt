use Rattle.vers_saved.proofs.Names.{◌++◌, sym, ◌∙◌, arith, head, Appends-trans}
use Rattle.vers_saved.proofs.Sums.{summed_more}
use Rattle.vers_saved.proofs.Streams.{left_of, stopped, went_on, ended}
use Rattle.vers_saved.proofs.stream.write_words.Goals as goal

pub returns-in-Err-clause-written : goal.returns-in-Err-clause-written
returns-in-Err-clause-written g c =
    let i = c.loop-done.invariant.written in
    let m = c.in-Err.ensures.written in (
      i.0 ++ m.0,
      m.1 ++ left_of g.S.Saved.kind.version g.S.Saved.kind.number c.args.shape.count c.args.shape.width c.loop-done.done (g.S.Saved.words c.args.list.now),
      Appends-trans _ _ _ _ _ i.1 m.2,
      stopped g.S.Saved.kind.version g.S.Saved.kind.number c.args.shape.count c.args.shape.width c.loop-done.done (g.S.Saved.words c.args.list.now) i.0 c.loop-done.buffer.items m.0 m.1 i.2 m.3,
      tt,
    )

pub loop-done-preserved : goal.loop-done-preserved
loop-done-preserved g c =
    let i = c.loop-done.invariant.written in
    let m = c.in_default.ensures.written in
    record {
      written = (
        i.0 ++ m.0,
        Appends-trans _ _ _ _ _ i.1 m.2,
        went_on (head g.S.Saved.kind.version g.S.Saved.kind.number c.args.shape.count c.args.shape.width) (g.S.Saved.words c.args.list.now) i.0 c.loop-done.buffer.items m.0 m.1 c.make_room.new.buffer.items
            c.put_group-sum.new.out.items c.loop-done.done c.min-n.result i.2 m.3 m.4 c.put_group-sum.ensures.items,
      );
      summed = rw (c.put_group-sum.ensures.sum, c.loop-done.invariant.summed)
          (summed_more (head g.S.Saved.kind.version g.S.Saved.kind.number c.args.shape.count c.args.shape.width) (g.S.Saved.words c.args.list.now) c.loop-done.done c.min-n.result);
      capacity = omega arith;
      room = omega (arith, c.in_default.ensures.room);
      within = omega arith;
    }

pub returns-clause-written : goal.returns-clause-written
returns-clause-written g c =
    let i = c.loop-done.invariant.written in
    let p = c.write_piece.ensures.written in (
      i.0 ++ p.0,
      p.1,
      Appends-trans _ _ _ _ _ i.1 p.2,
      ended g.S.Saved.kind.version g.S.Saved.kind.number c.args.shape.count c.args.shape.width c.loop-done.done c.loop-done.sum (g.S.Saved.words c.args.list.now) i.0 c.loop-done.buffer.items c.put_word.new.out.items p.0 p.1
          i.2 c.put_word.ensures.items (sym c.as_slice.ensures.value ∙ p.3) (omega arith) c.loop-done.invariant.summed,
      p.4,
    )
