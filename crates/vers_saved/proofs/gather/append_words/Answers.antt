use Rattle.vers_saved.proofs.Names.{rules, bytes_word}
use Rattle.std.proofs.lemmas.Iterator.{YieldsList-from_map, YieldsList-from_slice}
use Rattle.std.proofs.lemmas.Iterator.Consumers.{YieldsList-at}
use Rattle.std.proofs.lemmas.Iterator.Adapters.{items_from_extend}
use Rattle.vers_saved.proofs.gather.append_words.Goals as goal

pub returns : goal.returns
returns g c =
    let h = items_from_extend c.extend.result c.extend.ensures.ran (YieldsList-from_map _ bytes_word (YieldsList-at c.map.ensures.source (YieldsList-from_slice c.args.chunks.now c.iter.ensures.rest))
    c.map.ensures.closure (λ x r q k. search rules)) in
    search rules
