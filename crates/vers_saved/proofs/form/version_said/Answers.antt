use Rattle.vers_saved.proofs.Names.{◌∙◌, ap, sym, arith, get_or, get_or_past, map, bytes_word, words_of}
use Rattle.vers_saved.proofs.Tests.{words_are}
use Rattle.vers_saved.proofs.WordBytes.{length-words_of}
use Rattle.vers_saved.proofs.form.version_said.Goals as goal

pub returns-then-chunks-le1 : goal.returns-then-chunks-le1
returns-then-chunks-le1 c = sym (get_or_past (words_of c.args.bytes.now) 1 0 (omega (arith, length-words_of c.args.bytes.now, c.as_chunks.ensures.front_len)))

pub returns : goal.returns
returns c = c.word.ensures ∙ ap (λ l. get_or l 1 0) (ap (map bytes_word) c.as_chunks.ensures.front ∙ words_are c.args.bytes.now)
