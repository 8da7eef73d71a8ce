use Rattle.vers_c.proofs.Names.{position_from}
use Rattle.std.proofs.Common.{refl}
use Rattle.vers_c.proofs.SymbolAnswers.{many_answers}
use Rattle.vers_c.proofs.batch.symbols.SelectsBatchWaveletMatrixGlobalSelectQuery.ask_all.Goals as goal

pub returns : goal.returns
returns c = many_answers c.args.symbols.now (λ q. q.answer) _ (λ q. position_from c.args.symbols.now 0 q.rank q.symbol) c.args.queries.now _ c.select_u64_each.ensures (λ q. refl)
