use Rattle.vers_c.proofs.Names.{slice_get}
use Rattle.std.proofs.Common.{refl}
use Rattle.vers_c.proofs.SymbolAnswers.{many_answers}
use Rattle.vers_c.proofs.batch.symbols.GetsBatchWaveletMatrixGlobalGetQuery.ask_all.Goals as goal

pub returns : goal.returns
returns c = many_answers c.args.symbols.now (λ q. q.answer) _ (λ q. slice_get c.args.symbols.now.items q.position) c.args.queries.now _ c.get_u64_each.ensures (λ q. refl)
