use Rattle.vers_saved.proofs.Names.{◌∙◌, ap, sym, sorted_words}
use Rattle.vers_saved.proofs.SortedParts.{parts_cut}
use Rattle.vers_sorted.specs.Layout.{ArePartsOf}
use Rattle.vers_sorted.proofs.PublicLaws.{parts_tell}
use Rattle.vers_saved.proofs.parts.list_in.Goals as goal

pub from_parts-requires : goal.from_parts-requires
from_parts-requires g c =
    let m = c.requires.list in
    let ends = rw c.unwrap-head.ensures at c.ends_of.ensures.some in (
      m.0,
      m.1,
      rw (c.in_ok-low.ensures, c.in_ok-high.ensures)
          (parts_cut m.0 c.args.words.now c.unwrap-head.result.ends.len c.unwrap-head.result.ends.first c.unwrap-head.result.ends.last c.unwrap-head.result.lengths.low c.unwrap-head.result.lengths.high c.div_ceil-end.result m.2 ends c.div_ceil-end.ensures),
    )

pub returns-clause-words : goal.returns-clause-words
returns-clause-words g c =
    let m = c.requires.list in
    let ends = rw c.unwrap-head.ensures at c.ends_of.ensures.some in
    let own : ArePartsOf m.0 c.unwrap-head.result.ends.len c.unwrap-head.result.ends.first c.unwrap-head.result.ends.last c.in_ok-low.low c.in_ok-high.high =
    rw (c.in_ok-low.ensures, c.in_ok-high.ensures)
    (parts_cut m.0 c.args.words.now c.unwrap-head.result.ends.len c.unwrap-head.result.ends.first c.unwrap-head.result.ends.last c.unwrap-head.result.lengths.low c.unwrap-head.result.lengths.high c.div_ceil-end.result m.2 ends c.div_ceil-end.ensures) in
    ap sorted_words (parts_tell c.in_ok-list.list m.0 c.unwrap-head.result.ends.len c.unwrap-head.result.ends.first c.unwrap-head.result.ends.last c.in_ok-low.low c.in_ok-high.high c.in_ok-list.ensures.ascending m.1 c.in_ok-list.ensures.parts own) ∙ sym m.2
