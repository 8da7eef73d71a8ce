use Rattle.vers_c.proofs.Names.{kth_by_size, range_elements}
use Rattle.vers_c.proofs.SymbolAnswers.{kth_inside, many_answers}
use Rattle.vers_c.proofs.batch.symbols.QuantilesBatchWaveletMatrixGlobalQuantileQuery.ask_all.Goals as goal

pub returns : goal.returns
returns c = many_answers c.args.symbols.now (λ q. q.answer) _ (λ q. kth_by_size (range_elements c.args.symbols.now.items q.start q.end) q.i) c.args.queries.now _ c.quantile_u64_each.ensures (λ q. kth_inside _ _ _ _ _)
