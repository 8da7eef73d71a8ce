use Rattle.vers_saved.proofs.Names.{sym, arith, stands, words_among}
use Rattle.vers_saved.proofs.Orders.{length-words_among, each_next-one, ordered_end, ordered_more}
use Rattle.vers_saved.proofs.words.are_in_steps.Goals as goal

pub loop-k-init : goal.loop-k-init
loop-k-init g c = sym (each_next-one (stands c.args.order) (words_among c.args.n (g.W.Words.words c.args.words.now)))

pub loop-k-preserved : goal.loop-k-preserved
loop-k-preserved g c = grind (arith, ordered_more, stands)

pub returns : goal.returns
returns g c = grind (arith, ordered_end, length-words_among)
