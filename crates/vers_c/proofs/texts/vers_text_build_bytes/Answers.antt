use Rattle.std.proofs.Common.{None, rules, ◌≡◌, ◌∙◌}
use Rattle.vers_c.proofs.TextBuilds.{refused_is, text_is_made}
use Rattle.vers_c.specs.Structures.{contents}
use Rattle.vers_c.proofs.texts.vers_text_build_bytes.Goals as goal

pub returns-in-Ok : goal.returns-in-Ok
returns-in-Ok c =
    rw (text_is_made c.args.bytes.now c.args.width c.args.step c.in-Ok.text c.fill_text.ensures.text (c.in-Ok.ensures.width ∙ c.narrowed.ensures) c.in-Ok.ensures.items c.in-Ok.ensures.step) c.fill_text.ensures.made

pub returns-in-Err : goal.returns-in-Err
returns-in-Err c =
    let none : contents c.args.handle.now ≡ None = search rules in
    refused_is c.args.bytes.now c.args.width c.args.step c.in-Err.error (contents c.args.handle.now) c.refusal.result none (rw c.narrowed.ensures at c.in-Err.ensures.refused) c.refusal.ensures.memory c.refusal.ensures.refused
