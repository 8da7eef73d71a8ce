use Rattle.vers_saved.proofs.Names.{◌≡◌, ◌∙◌, sym, subst, arith, length, All}
use Rattle.std.proofs.lemmas.List.Elements.{All-push}
use Rattle.vers_saved.proofs.SymbolLevels.{level_left, none_left, level_padded, level_more}
use Rattle.vers_saved.proofs.symbols.levels_of.Goals as goal

pub split_at-requires : goal.split_at-requires
split_at-requires g c =
    let i = c.loop.invariant in
    rw c.div_ceil-limbs.ensures (level_left c.args.of.count c.args.of.width c.loop.counter c.args.words.now c.loop.rest.now c.loop.levels.items c.requires i.count i.even i.words c.loop-test.true)

pub level_of-requires-clause-padded : goal.level_of-requires-clause-padded
level_of-requires-clause-padded g c =
    let i = c.loop.invariant in
    rw (c.split_at.ensures.front, c.div_ceil-limbs.ensures)
    (level_padded c.args.of.count c.args.of.width c.loop.counter c.args.words.now c.loop.rest.now c.loop.levels.items c.requires i.count i.even i.words c.loop-test.true)

pub loop-preserved : goal.loop-preserved
loop-preserved g c =
    let i = c.loop.invariant in
    let level = c.in_ok-level_of.field-0 in
    let front = rw c.div_ceil-limbs.ensures at c.split_at.ensures.front in
    let back = rw c.div_ceil-limbs.ensures at c.split_at.ensures.back in
    let more = level_more c.args.of.count c.args.of.width c.loop.counter c.args.words.now c.loop.rest.now c.loop.levels.items c.requires i.count i.even i.words level (c.in_ok-level_of.ensures.limbs ∙ front) in
    record {
      count = omega (arith, c.in_ok-push.ensures.len, i.count);
      even = subst (All (λ v. length v ≡ c.args.of.count)) (sym c.in_ok-push.ensures.items) (All-push (λ v. length v ≡ c.args.of.count) c.loop.levels.items level i.even c.in_ok-level_of.ensures.len);
      words = rw (c.in_ok-push.ensures.items, back) more;
    }

pub returns-clause-words : goal.returns-clause-words
returns-clause-words g c =
    let i = c.loop.invariant in
    none_left c.args.of.count c.args.of.width c.loop.counter c.args.words.now c.loop.rest.now c.loop.levels.items c.requires i.count i.even i.words (omega arith)
