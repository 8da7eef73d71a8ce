use Rattle.vers_saved.proofs.Names.{◌≡◌, ◌++◌, ◌∙◌, take, sym, ap, subst, take_all, arith, Consumes, bytes_of, words_of, bytes_word, map}
use Rattle.vers_saved.proofs.WordBytes.{bytes_of-words_of, length-words_of}
use Rattle.vers_saved.proofs.Tests.{words_are}
use Rattle.vers_saved.proofs.gather.gather_piece.Goals as goal

pub returns-clause-gathered : goal.returns-clause-gathered
returns-clause-gathered g c =
    let piece = c.fill.new.block in
    let all : take c.in_ok-filled.filled c.fill.new.block ≡ c.fill.new.block = take_all c.in_ok-filled.filled c.fill.new.block (omega (arith, c.if-filled-size.false, c.requires.size)) in
    let whole : bytes_of (words_of c.fill.new.block) ≡ c.fill.new.block =
    bytes_of-words_of c.fill.new.block (omega (arith, c.requires.size, c.requires.whole)) c.are_bytes.ensures in (
      words_of piece,
      subst (Consumes (g.R.Read.remaining c.args.reader.now) (g.R.Read.remaining c.fill.new.reader)) (all ∙ sym whole) c.in_ok-filled.ensures.read,
      c.in_ok-append_words.ensures ∙ ap (λ l. l ++ map bytes_word c.as_chunks.result.0.now) c.make_room.ensures
          ∙ ap (λ l. c.args.words.now.items ++ map bytes_word l) c.as_chunks.ensures.front ∙ ap (λ l. c.args.words.now.items ++ l) (words_are c.fill.new.block),
      omega (arith, length-words_of c.fill.new.block, c.requires.size, c.requires.whole),
    )
