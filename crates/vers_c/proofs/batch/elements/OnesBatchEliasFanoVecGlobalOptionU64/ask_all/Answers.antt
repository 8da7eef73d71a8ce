use Rattle.vers_c.proofs.Names.{Option, map, slice_get, option_and_then, map-map}
use Rattle.std.proofs.Common.{ℕ, ◌∙◌, ap, unwrap_or}
use Rattle.catalogue.specs.declared.answer.Answer.{Answer}
use Rattle.catalogue.specs.declared.answer.Answer.TheVariants.{Found}
use Rattle.vers_c.proofs.batch.elements.OnesBatchEliasFanoVecGlobalOptionU64.ask_all.Goals as goal

pub returns : goal.returns
returns c =
    let found : Option ℕ → Answer = λ element. Found (unwrap_or element c.args.self.len) in
    ap (map found) c.get_each.ensures.value ∙ map-map found (option_and_then (slice_get c.args.elements.now)) c.args.numbers.now
