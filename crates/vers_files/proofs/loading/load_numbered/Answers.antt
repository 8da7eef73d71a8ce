use Rattle.std.proofs.Common.{◌∙◌, Some, ap, sym}
use Rattle.vers_files.proofs.Named.{kind_is, some_kind}
use Rattle.vers_files.proofs.loading.load_numbered.Goals as goal

pub returns-clause-back : goal.returns-clause-back
returns-clause-back g c = λ x of_file whole fits named.
    c.load_kind.ensures.back x of_file whole fits
    (some_kind x c.of.result _ whole (kind_is x of_file whole c.args.number named ∙ sym c.of.ensures) ∙ ap Some (sym c.unwrap_or-kind.ensures))
