use Rattle.vers_saved.proofs.Names.{◌≡◌, ◌+◌, ◌∙◌, ap, sym, arith, check_sum, take, take_all, words_among}
use Rattle.vers_saved.proofs.Orders.{length-words_among, copied_more}
use Rattle.vers_saved.proofs.Sums.{check_sum-more}
use Rattle.vers_saved.proofs.words.copy_summed.Goals as goal

pub loop-k-preserved : goal.loop-k-preserved
loop-k-preserved g c =
    let i = c.loop-k.invariant in
    let ws = g.W.Words.words c.args.words.now in
    let next : c.loop-k.k + 5 + 1 ≡ c.loop-k.k + 1 + 5 = omega arith in
    record {
      items = c.push_reserved.ensures.items
          ∙ copied_more c.args.n ws c.loop-k.k c.loop-k.kept.items c.word-word.result c.requires.long (omega (arith)) i.items c.word-word.ensures;
      summed = rw (c.mixed-sum.ensures, i.summed, c.word-word.ensures, ← next)
          (sym (check_sum-more ws (c.loop-k.k + 5) (omega (arith, c.requires.long))));
      len = omega (arith, c.push_reserved.ensures.len, i.len);
      capacity = c.push_reserved.ensures.capacity ∙ i.capacity;
    }

pub returns : goal.returns
returns g c =
    let i = c.loop-k.invariant in
    let ws = g.W.Words.words c.args.words.now in
    let all : c.loop-k.k ≡ c.args.n = omega arith in
    record {
      items = i.items ∙ take_all c.loop-k.k (words_among c.args.n ws) (omega (arith, all, length-words_among c.args.n ws c.requires.long));
      sum = i.summed ∙ ap (λ m. check_sum (take (m + 5) ws)) all;
    }
