use Rattle.vers_saved.proofs.Names.{◌≡◌, ◌∙◌, ap, sym, arith, IfOk-weaker, at_version, saved}
use Rattle.vers_saved.proofs.Versions.{form_named, none_named, number_at}
use Rattle.vers_saved.proofs.form.form_of.Goals as goal

pub returns-clause-ok : goal.returns-clause-ok
returns-clause-ok g c =
    let is = c.at_version.ensures ∙ ap (at_version c.args.kind) c.version_said.ensures in
    IfOk-weaker c.exact_form.result _ _
    (λ r h. form_named c.args.kind c.at_version.result r.version r.shape.count r.shape.width r.words.items c.args.bytes.now (omega arith) is h.0 h.1 h.2) c.exact_form.ensures.ok

pub returns-clause-back : goal.returns-clause-back
returns-clause-back g c = λ version count width words named whole form.
    let said = (none_named c.args.kind version count width words c.args.bytes.now (omega arith) named whole form).0 in
    let same : at_version c.args.kind version ≡ c.at_version.result = sym (c.at_version.ensures ∙ ap (at_version c.args.kind) (c.version_said.ensures ∙ said)) in
    let number = number_at c.args.kind version in
    let back = rw (← same) at c.exact_form.ensures.back in
    rw (← named) at (back count width words whole (form ∙ ap (λ n. saved (at_version c.args.kind version).version n count width words) (sym number)))
