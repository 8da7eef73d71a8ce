use Rattle.vers_bits.proofs.Names.{rules, ◌≡◌, ◌++◌, ◌∷◌, ◌≤◌, [], length, map, Err, ap, sym, ◌∙◌, arith, err_from_is_err_and, length-map, append-nil, map-append, low_bits, length_push, length-append, append_assoc, TooLong}
use Rattle.vers_bits.specs.declared.bit_vec.TheConstants.{MAX_LEN}
use Rattle.vers_bits.proofs.Words.{length-word_bits}
use Rattle.vers_bits.proofs.LowBits.{low_bits_none, length-low_bits}
use Rattle.vers_bits.proofs.bit_vec.BitVec.odd_items_of.Goals as goal

pub loop-item-init : goal.loop-item-init
loop-item-init g c = record {
  can = c.requires.can;
  ends = c.requires.ends;
  bits = ap (λ l. l ++ low_bits 0 0) c.new-list.ensures ∙ low_bits_none 0;
  small = omega arith;
  within = omega arith;
  room = omega (arith, ap length c.new-list.ensures);
}

pub loop-item-preserved-then-gathered-room : goal.loop-item-preserved-then-gathered-room
loop-item-preserved-then-gathered-room g c =
    let odd = g.T.Item.is_odd in
    let xs = c.loop-item.yielded in
    record {
      can = search rules;
      ends = search rules;
      bits =
          ap (λ l. c.loop-item.list ++ l) c.with_digit-word.ensures.digits ∙ sym (append_assoc c.loop-item.list (low_bits c.loop-item.word c.loop-item.gathered) (c.is_odd.result ∷ []))
          ∙ ap (λ l. l ++ c.is_odd.result ∷ []) c.loop-item.invariant.bits ∙ ap (λ b. map odd xs ++ b ∷ []) c.is_odd.ensures ∙ sym (map-append odd xs (c.in-Some.item ∷ []));
      small = c.with_digit-word.ensures.small;
      within = omega arith;
      room = c.loop-item.invariant.room;
    }

pub loop-item-preserved : goal.loop-item-preserved
loop-item-preserved g c =
    let odd = g.T.Item.is_odd in
    let xs = c.loop-item.yielded in
    let bit = c.is_odd-else-gathered-room.result in
    let full = c.append_within.ensures in
    let grown = c.in_ok-append.ensures.grown in
    record {
      can = search rules;
      ends = search rules;
      bits =
          ap (λ l. c.append.new.self ++ l) (low_bits_none 0) ∙ append-nil c.append.new.self ∙ grown ∙ ap (λ l. l ++ bit ∷ []) (full ∙ c.loop-item.invariant.bits)
          ∙ ap (λ b. map odd xs ++ b ∷ []) c.is_odd-else-gathered-room.ensures ∙ sym (map-append odd xs (c.in-Some.item ∷ []));
      small = omega arith;
      within = omega arith;
      room =
          grind (arith, length_push, length-append, length-low_bits);
    }

pub returns-in_err-append-clause-refused : goal.returns-in_err-append-clause-refused
returns-in_err-append-clause-refused g c =
    let p = err_from_is_err_and c.from_residual.result c.from_residual.ensures.1 in
    let xs = c.loop-item.yielded in
    let before = c.append_within.new.self in
    let full : before ≡ map g.T.Item.is_odd xs = c.append_within.ensures ∙ c.loop-item.invariant.bits in
    let long : length before ≡ length xs = ap length full ∙ length-map xs g.T.Item.is_odd in
    let short : length before ≤ MAX_LEN =
    omega (arith, ap length c.in_err-append.ensures.kept, ap length c.list.view_is, length-word_bits c.list.inside.«data».items c.list.inside.len, c.list.invariant.bounded) in
    let exact = c.in_err-append.ensures.too_long in
    rw (p.1, p.2) (
      xs,
      c.in-Some.item,
      (_, c.loop-item.yielded_by, c.in-Some.ensures.steps),
      ((λ e. omega (arith, exact.0 (ap Err e))), (λ h. let q : Err c.in_err-append.field-0.0 ≡ Err TooLong = exact.1 (omega arith) in cc)),
    )

pub returns-in_err-append-clause-made : goal.returns-in_err-append-clause-made
returns-in_err-append-clause-made g c = let p = err_from_is_err_and c.from_residual.result c.from_residual.ensures.1 in rw p.1 tt

pub returns-clause-made : goal.returns-clause-made
returns-clause-made g c = (c.loop-item.yielded, (_, c.loop-item.yielded_by, c.in_default.ensures.steps), c.append_within-2.ensures ∙ c.loop-item.invariant.bits)
