use Rattle.vers_saved.proofs.Names.{◌≡◌, ◌+◌, ◌∙◌, ap, arith, get_or}
use Rattle.std.proofs.lemmas.List.{length-set}
use Rattle.vers_saved.specs.Format.{sparse_words}
use Rattle.vers_saved.proofs.Copies.{one_more}
use Rattle.vers_saved.proofs.sparse.SparseRSVecSaved.copy_words.Goals as goal

pub loop-k-preserved : goal.loop-k-preserved
loop-k-preserved g c =
    let at : c.loop-k.k ≡ c.args.from + c.loop-k.k = omega (arith, c.if-from-gt0.false) in
    record {
      len = length-set c.loop-k.out c.loop-k.k c.word.result ∙ c.loop-k.invariant.len;
      copied = one_more (sparse_words c.args.self.now) c.loop-k.out c.args.from c.loop-k.k c.word.result (omega (arith, c.loop-k.invariant.len, c.loop-k-test.true)) c.loop-k.invariant.copied (c.word.ensures ∙ ap (λ p. get_or (sparse_words c.args.self.now) p 0) at);
    }
