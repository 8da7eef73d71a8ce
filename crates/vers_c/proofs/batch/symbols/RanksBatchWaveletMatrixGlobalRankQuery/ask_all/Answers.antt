use Rattle.vers_c.proofs.Names.{rank_before}
use Rattle.vers_c.proofs.SymbolAnswers.{many_answers, rank_inside}
use Rattle.vers_c.proofs.batch.symbols.RanksBatchWaveletMatrixGlobalRankQuery.ask_all.Goals as goal

pub returns : goal.returns
returns c = many_answers c.args.symbols.now (λ q. q.answer) _ (λ q. rank_before c.args.symbols.now q.end q.symbol) c.args.queries.now _ c.rank_u64_each.ensures (λ q. rank_inside c.args.symbols.now q.end q.symbol)
