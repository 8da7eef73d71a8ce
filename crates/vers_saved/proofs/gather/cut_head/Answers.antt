use Rattle.vers_saved.proofs.ReadForms.{six_words}
use Rattle.vers_saved.proofs.gather.cut_head.Goals as goal

pub returns-clause-same : goal.returns-clause-same
returns-clause-same g c =
    six_words c.args.words.now.items c.truncate.new.self.items c.index.result.now c.index-2.result.now c.index-3.result.now c.index-4.result.now c.index-5.result.now c.index-6.result.now c.requires
    c.index.ensures c.index-2.ensures c.index-3.ensures c.index-4.ensures c.index-5.ensures c.index-6.ensures c.truncate.ensures.items
