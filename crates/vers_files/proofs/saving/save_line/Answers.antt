use Rattle.std.proofs.Common.{◌≡◌, sym, ap, ◌∙◌}
use Rattle.catalogue.specs.Structures.{content_of}
use Rattle.vers_words.specs.Text.{words_of}
use Rattle.vers_words.specs.Loading.{map_loading}
use Rattle.vers_words.specs.declared.loading.Loading.TheVariants.{Accepted}
use Rattle.vers_cli.specs.Rules.{line_loaded}
use Rattle.vers_files.proofs.OfLines.{line_written, line_refused}
use Rattle.vers_files.proofs.saving.save_line.Goals as goal

pub returns-in-Ok-Accepted-clause-written : goal.returns-in-Ok-Accepted-clause-written
returns-in-Ok-Accepted-clause-written g c =
    let is : line_loaded (words_of c.args.line.now) ≡ Accepted (content_of c.in-Ok-Accepted.structure) =
    sym c.in-Ok-Accepted.ensures ∙ ap (map_loading content_of) c.in-Ok-Accepted.field-0-is in
    rw c.line_saved.ensures (line_written _ _ _ _ _ _ is c.save-saved.ensures.written)

pub returns-in-Ok-Accepted-clause-refused : goal.returns-in-Ok-Accepted-clause-refused
returns-in-Ok-Accepted-clause-refused g c =
    let is : line_loaded (words_of c.args.line.now) ≡ Accepted (content_of c.in-Ok-Accepted.structure) =
    sym c.in-Ok-Accepted.ensures ∙ ap (map_loading content_of) c.in-Ok-Accepted.field-0-is in
    rw c.line_saved.ensures (line_refused _ _ _ _ is (sym c.has_no_bits-has_no_bits.ensures) c.save-saved.ensures.none)
