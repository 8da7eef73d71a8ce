use Rattle.vers_saved.proofs.Names.{◌≡◌, ◌+◌, ◌*◌, ◌∙◌, sym, ap, arith, length, length-limbs, length-set, limb_count}
use Rattle.vers_saved.proofs.SymbolLevels.{level_inside, level_limb, length-level_words, limb_next}
use Rattle.vers_saved.proofs.symbols.copy_across.Goals as goal

pub level-requires : goal.level-requires
level-requires g c =
    let i = c.loop-j.invariant in
    let all = length-level_words c.args.list.now in
    (level_inside c.args.list.now.width (length c.args.list.now.items) c.max-limbs.result c.loop-j.position.level c.loop-j.position.limb (c.args.from + c.loop-j.j)
    (rw (c.div_ceil.ensures, c.len.ensures.value) at c.max-limbs.ensures) i.position (omega (arith, all, c.requires.within)) i.within).1

pub limb_of-requires : goal.limb_of-requires
limb_of-requires g c =
    let i = c.loop-j.invariant in
    let all = length-level_words c.args.list.now in
    let p = level_inside c.args.list.now.width (length c.args.list.now.items) c.max-limbs.result c.loop-j.position.level c.loop-j.position.limb (c.args.from + c.loop-j.j)
    (rw (c.div_ceil.ensures, c.len.ensures.value) at c.max-limbs.ensures) i.position (omega (arith, all, c.requires.within)) i.within in
    omega (arith, i.within, p.0, length-limbs c.level.result.now, ap limb_count c.level.ensures.len)

pub position_after-position-requires-clause-small : goal.position_after-position-requires-clause-small
position_after-position-requires-clause-small g c =
    let i = c.loop-j.invariant in
    let all = length-level_words c.args.list.now in
    let p = level_inside c.args.list.now.width (length c.args.list.now.items) c.max-limbs.result c.loop-j.position.level c.loop-j.position.limb (c.args.from + c.loop-j.j)
    (rw (c.div_ceil.ensures, c.len.ensures.value) at c.max-limbs.ensures) i.position (omega (arith, all, c.requires.within)) i.within in
    omega (arith, p.1, c.requires.few)

pub loop-j-preserved : goal.loop-j-preserved
loop-j-preserved g c =
    let i = c.loop-j.invariant in
    let all = length-level_words c.args.list.now in
    let p = level_inside c.args.list.now.width (length c.args.list.now.items) c.max-limbs.result c.loop-j.position.level c.loop-j.position.limb (c.args.from + c.loop-j.j)
    (rw (c.div_ceil.ensures, c.len.ensures.value) at c.max-limbs.ensures) i.position (omega (arith, all, c.requires.within)) i.within in
    let position : c.loop-j.position.level * limb_count (length c.args.list.now.items) + c.loop-j.position.limb ≡ c.args.from + c.loop-j.j = ap (λ n. c.loop-j.position.level * n + c.loop-j.position.limb) (sym p.0) ∙ i.position in
    let word = level_limb c.args.list.now (c.args.from + c.loop-j.j) c.loop-j.position.level c.loop-j.position.limb c.level.result.now position (omega (arith, i.within, p.0)) p.1 c.level.ensures.value in
    record {
      long = length-set _ _ _ ∙ i.long;
      copied = limb_next c.loop-j.out _ c.loop-j.j c.args.from c.limb_of.result (omega (arith, i.long)) i.copied (c.limb_of.ensures ∙ sym word);
      position = omega (arith, c.position_after-position.ensures.next, i.position);
      within = c.position_after-position.ensures.within;
    }
