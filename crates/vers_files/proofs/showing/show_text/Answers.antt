use Rattle.std.proofs.Common.{refl, ◌∙◌}
use Rattle.vers_files.proofs.TextForms.{size_of_form}
use Rattle.vers_files.proofs.showing.show_text.Goals as goal

pub returns-in-Ok-clause-shown : goal.returns-in-Ok-clause-shown
returns-in-Ok-clause-shown g c =
    let whole = c.in-Ok.ensures.whole in (
      c.in-Ok.text,
      (whole.1, c.in-Ok.ensures.loaded),
      record {
        kind = refl;
        len = c.len.ensures.value;
        width = c.from.ensures ∙ c.bits_per_symbol.ensures;
        bytes = λ _. c.unwrap_or.ensures ∙ size_of_form c.saved_size.result _ _ c.saved_size.ensures.some c.saved_size.ensures.none whole.0.may;
        none = λ formless. absurd (formless whole.0);
      },
    )
