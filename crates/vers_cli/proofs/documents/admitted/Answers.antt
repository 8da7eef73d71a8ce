use Rattle.vers_cli.proofs.Names.{ap, ◌∙◌, if_admitted}
use Rattle.vers_cli.proofs.Pairs.{is_admitted, not_admitted}
use Rattle.vers_cli.proofs.documents.admitted.Goals as goal

pub returns-in-Ok : goal.returns-in-Ok
returns-in-Ok g c = is_admitted c.in-Ok.postings c.in-Ok.ensures.paired.ascending c.in-Ok.ensures.within ∙ ap if_admitted c.in-Ok.ensures.made

pub returns-in-Err-NotAscending : goal.returns-in-Err-NotAscending
returns-in-Err-NotAscending g c =
    not_admitted c.args.documents.now c.args.costs.items c.in-Err-NotAscending.field-0 c.in-Err-NotAscending.field-0-is c.in-Err-NotAscending.ensures.refused
