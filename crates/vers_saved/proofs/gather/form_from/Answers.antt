use Rattle.vers_saved.proofs.Names.{refl, arith, at_version, saved}
use Rattle.vers_saved.proofs.Versions.{none_named, one_named}
use Rattle.vers_saved.proofs.ReadForms.{refused_none, at_some}
use Rattle.vers_saved.proofs.gather.form_from.Goals as goal

pub returns-clause-back : goal.returns-clause-back
returns-clause-back g c = λ version count width words named whole e.
    let bytes = saved (at_version c.args.kind version).version c.args.kind.number count width words in
    refused_none c.args.kind (g.R.Read.remaining c.args.reader.now) bytes c.in-Err.fault e
    ((none_named c.args.kind version count width words bytes (omega arith) named whole refl).1) c.in-Err.ensures.refused

pub returns-in-Ok-clause-back : goal.returns-in-Ok-clause-back
returns-in-Ok-clause-back g c = λ version count width words named whole e.
    let bytes = saved (at_version c.args.kind version).version c.args.kind.number count width words in
    one_named c.args.kind c.in-Ok.field-0.version c.in-Ok.field-0.shape.count c.in-Ok.field-0.shape.width version count width c.gather_form.new.words.items words bytes
    (omega arith) c.in-Ok.ensures.version named c.in-Ok.ensures.whole whole (at_some (g.R.Read.remaining c.args.reader.now) bytes _ e c.in-Ok.ensures.ok) refl
