use Rattle.vers_bits.proofs.Names.{◌≡◌, ◌∙◌, ◌<◌, ◌/◌, length, take, ap, arith, get_or_read, length-take, limb_count}
use Rattle.vers_bits.proofs.Edits.{cut_whole, cut_part}
use Rattle.vers_bits.proofs.bit_vec.words.cut.Goals as goal

pub returns-then-used-eq0 : goal.returns-then-used-eq0
returns-then-used-eq0 g c =
    let n = c.args.len in
    let words = c.args.words.now.items in
    let front : c.truncate.new.self.items ≡ take (limb_count n) words = c.truncate.ensures.items ∙ ap (λ k. take k words) (omega arith) in
    rw front (cut_whole words n c.requires c.if-used-eq0.true)

pub returns : goal.returns
returns g c =
    let n = c.args.len in
    let words = c.args.words.now.items in
    let front : c.truncate.new.self.items ≡ take (limb_count n) words = c.truncate.ensures.items ∙ ap (λ k. take k words) (omega arith) in
    let within : n / 64 < length c.truncate.new.self.items = rw front (omega (arith, c.requires, length-take (limb_count n) words)) in
    rw (c.low_part.ensures.value, get_or_read _ _ _ within c.index-last.ensures 0, front) (cut_part words n c.requires (omega arith))
