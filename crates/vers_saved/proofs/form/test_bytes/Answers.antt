use Rattle.vers_saved.proofs.Names.{◌≡◌, arith, rules, Some, version_fault}
use Rattle.vers_saved.proofs.Tests.{bad_bytes}
use Rattle.vers_saved.proofs.form.test_bytes.Goals as goal

pub returns-in_err-head-clause-fault : goal.returns-in_err-head-clause-fault
returns-in_err-head-clause-fault c =
    let bad : version_fault c.args.kind.now c.args.bytes.now ≡ Some c.in_err-head.field-0.0 =
    bad_bytes c.args.kind.now c.args.bytes.now c.in_err-head.field-0.0 _ c.as_chunks.ensures.front (omega (arith, c.as_chunks.ensures.front_len)) c.in_err-head.ensures.fault in
    search (rules, bad)
