use Rattle.vers_saved.proofs.Names.{◌≡◌, ◌+◌, ◌-◌, ◌∙◌, ap, arith, get_or, length, length-limbs, limb, limb_count, limbs, sorted_words}
use Rattle.std.proofs.lemmas.List.{length-set}
use Rattle.vers_sorted.specs.Layout.{high_parts, low_parts}
use Rattle.vers_saved.proofs.Copies.{one_more}
use Rattle.vers_saved.proofs.SortedForms.{high_word, low_word}
use Rattle.vers_saved.proofs.SortedParts.{length-sorted}
use Rattle.vers_saved.proofs.parts.copy_list.Goals as goal

pub copy_high-requires-clause-within : goal.copy_high-requires-clause-within
copy_high-requires-clause-within g c =
    omega (arith, c.requires.within, length-sorted c.args.list.now, c.if-from-end.true, c.div_ceil-end.ensures, c.len.ensures.value, ap length c.low_parts-low.ensures, length-limbs c.high_parts.result.now, ap length c.high_parts.ensures)

pub returns-then-from-end : goal.returns-then-from-end
returns-then-from-end g c = λ j h.
    let m = c.args.list.now in
    let same : c.div_ceil-end.result ≡ limb_count (length (low_parts c.args.list.now)) = omega (arith, c.div_ceil-end.ensures, c.len.ensures.value, ap length c.low_parts-low.ensures) in
    let at : c.args.from - (3 + c.div_ceil-end.result) + j ≡ c.args.from + j - 3 - limb_count (length (low_parts c.args.list.now)) = omega (arith, same, c.if-from-end.true) in
    c.copy_high.ensures j h ∙ ap (λ l. get_or (limbs l) (c.args.from - (3 + c.div_ceil-end.result) + j) 0) c.high_parts.ensures ∙ ap (λ p. get_or (limbs (high_parts c.args.list.now)) p 0) at
    ∙ high_word m (c.args.from + j) (omega (arith, c.if-from-end.true)) (omega (arith, same, c.if-from-end.true))

pub returns-then-out-end : goal.returns-then-out-end
returns-then-out-end g c = λ j h.
    let m = c.args.list.now in
    let same : c.div_ceil-end.result ≡ limb_count (length (low_parts c.args.list.now)) = omega (arith, c.div_ceil-end.ensures, c.len.ensures.value, ap length c.low_parts-low.ensures) in
    let at : c.args.from - 3 + j ≡ c.args.from + j - 3 = omega (arith, c.if-from-ge-ENDS.true) in
    c.copy_low.ensures j h ∙ ap (λ l. limb l (c.args.from - 3 + j)) c.low_parts-low.ensures ∙ ap (λ p. limb (low_parts c.args.list.now) p) at
    ∙ low_word m (c.args.from + j) (omega (arith, c.if-from-ge-ENDS.true)) (omega (arith, same, h, c.if-from-ge-ENDS.true, c.if-from-end.false, c.if-out-end.true))

pub loop-k-preserved : goal.loop-k-preserved
loop-k-preserved g c = record {
  len = length-set c.loop-k.out c.loop-k.k c.list_word.result ∙ c.loop-k.invariant.len;
  copied = one_more (sorted_words c.args.list.now) c.loop-k.out c.args.from c.loop-k.k c.list_word.result (omega (arith, c.loop-k.invariant.len, c.loop-k-test.true)) c.loop-k.invariant.copied c.list_word.ensures;
}
