use Rattle.vers_saved.proofs.Names.{◌≡◌, ◌<◌, ◌+◌, ◌*◌, ◌/◌, ◌%◌, ◌∙◌, sym, ap, arith, nat_tests, length, length-limbs, limb_count}
use Rattle.std.proofs.lemmas.Nat.{div-add-mod'}
use Rattle.vers_saved.proofs.SymbolLevels.{level_inside, level_limb, length-level_words}
use Rattle.vers_saved.proofs.symbols.copy_levels.Goals as goal

pub level-requires : goal.level-requires
level-requires g c =
    let all = length-level_words c.args.list.now in
    let some : 0 < length c.args.out.now = grind (arith, nat_tests, c.if-is_empty.ensures) in
    let small : c.args.from % c.max-limbs.result < c.max-limbs.result = omega (arith, some, c.if-out-limbs.false) in
    (level_inside c.args.list.now.width (length c.args.list.now.items) c.max-limbs.result (c.args.from / c.max-limbs.result) (c.args.from % c.max-limbs.result) c.args.from
    (rw (c.div_ceil.ensures, c.len.ensures.value) at c.max-limbs.ensures) (div-add-mod' c.args.from c.max-limbs.result) (omega (arith, some, all, c.requires.within)) small).1

pub copy_level-requires-clause-within : goal.copy_level-requires-clause-within
copy_level-requires-clause-within g c =
    let all = length-level_words c.args.list.now in
    let some : 0 < length c.args.out.now = grind (arith, nat_tests, c.if-is_empty.ensures) in
    let small : c.args.from % c.max-limbs.result < c.max-limbs.result = omega (arith, some, c.if-out-limbs.false) in
    let same = (level_inside c.args.list.now.width (length c.args.list.now.items) c.max-limbs.result (c.args.from / c.max-limbs.result) (c.args.from % c.max-limbs.result) c.args.from
    (rw (c.div_ceil.ensures, c.len.ensures.value) at c.max-limbs.ensures) (div-add-mod' c.args.from c.max-limbs.result) (omega (arith, some, all, c.requires.within)) small).0 in
    omega (arith, some, c.if-out-limbs.false, same, length-limbs c.level.result.now, ap limb_count c.level.ensures.len)

pub returns : goal.returns
returns g c = λ j h.
    let all = length-level_words c.args.list.now in
    let some : 0 < length c.args.out.now = omega (arith, h) in
    let small : c.args.from % c.max-limbs.result < c.max-limbs.result = omega (arith, some, c.if-out-limbs.false) in
    let p = level_inside c.args.list.now.width (length c.args.list.now.items) c.max-limbs.result (c.args.from / c.max-limbs.result) (c.args.from % c.max-limbs.result) c.args.from
    (rw (c.div_ceil.ensures, c.len.ensures.value) at c.max-limbs.ensures) (div-add-mod' c.args.from c.max-limbs.result) (omega (arith, some, all, c.requires.within)) small in
    let whole = div-add-mod' c.args.from c.max-limbs.result in
    let first : c.args.from / c.max-limbs.result * limb_count (length c.args.list.now.items) ≡ c.args.from / c.max-limbs.result * c.max-limbs.result = ap (λ n. c.args.from / c.max-limbs.result * n) (sym p.0) in
    let position : c.args.from / c.max-limbs.result * limb_count (length c.args.list.now.items) + (c.args.from % c.max-limbs.result + j) ≡ c.args.from + j = omega (arith, whole, first) in
    c.copy_level.ensures j h
    ∙ sym (level_limb c.args.list.now (c.args.from + j) (c.args.from / c.max-limbs.result) (c.args.from % c.max-limbs.result + j) c.level.result.now position (omega (arith, h, some, c.if-out-limbs.false, p.0)) p.1 c.level.ensures.value)
