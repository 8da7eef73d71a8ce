use Rattle.vers_saved.proofs.Names.{◌∙◌, arith}
use Rattle.std.proofs.lemmas.List.{length-set}
use Rattle.vers_saved.specs.Format.{inverted_words}
use Rattle.vers_saved.proofs.Copies.{one_more}
use Rattle.vers_saved.proofs.inverted_index.InvertedIndexSaved.copy_words.Goals as goal

pub loop-k-preserved : goal.loop-k-preserved
loop-k-preserved g c = record {
  len = length-set c.loop-k.out c.loop-k.k c.word.result ∙ c.loop-k.invariant.len;
  copied = one_more (inverted_words c.args.self.now) c.loop-k.out c.args.from c.loop-k.k c.word.result (omega (arith, c.loop-k.invariant.len, c.loop-k-test.true)) c.loop-k.invariant.copied c.word.ensures;
}
