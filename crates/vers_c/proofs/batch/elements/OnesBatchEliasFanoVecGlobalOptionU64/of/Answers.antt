use Rattle.std.proofs.Common.{ap}
use Rattle.std.proofs.lemmas.Option.{unwrap_or-slice_get}
use Rattle.catalogue.specs.declared.answer.Answer.TheVariants.{Found}
use Rattle.vers_c.proofs.batch.elements.OnesBatchEliasFanoVecGlobalOptionU64.of.Goals as goal

pub returns : goal.returns
returns c structure = ap Found (unwrap_or-slice_get structure c.args.ask.a c.args.self.len)
