use Rattle.vers_c.proofs.Names.{map, map-map, below}
use Rattle.std.proofs.Common.{◌∙◌, ap}
use Rattle.catalogue.specs.declared.answer.Answer.TheVariants.{Found}
use Rattle.vers_c.proofs.batch.elements.RanksBatchEliasFanoVecGlobalU64.ask_all.Goals as goal

pub returns : goal.returns
returns c = ap (map Found) c.rank_each.ensures.value ∙ map-map Found (below c.args.elements.now) c.args.numbers.now
