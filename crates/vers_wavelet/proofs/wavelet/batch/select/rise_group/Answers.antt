use Rattle.vers_wavelet.proofs.Names.{◌≡◌, ℕ, ◌+◌, ◌-◌, Bool, List, length, get_or, ap, sym, subst, ◌∙◌, arith, any_default, HasPosition, no_query}
use Rattle.vers_wavelet.specs.declared.wavelet.batch.select.SelectQuery.{SelectQuery}
use Rattle.vers_wavelet.proofs.Groups.{changed_item, position_above}
use Rattle.vers_wavelet.proofs.wavelet.batch.select.rise_group.Goals as goal

pub found-above-requires-clause-slot : goal.found-above-requires-clause-slot
found-above-requires-clause-slot g c = grind arith

pub rise-requires-clause-seeks : goal.rise-requires-clause-seeks
rise-requires-clause-seeks g c = grind arith

pub rise-requires-clause-above : goal.rise-requires-clause-above
rise-requires-clause-above g c = λ v p at some from.
    let level : List Bool = c.index-levels-k.result in
    let i : ℕ = length c.args.levels.now - (c.args.k + 1) in
    let same : v ≡ level = at ∙ any_default c.args.levels.now c.args.k v level c.requires.within ∙ sym c.index-levels-k.is in
    let placed = c.find_all.ensures.positions i c.loop-j.j _ (c.new-group.ensures.numbers c.loop-j.j c.loop-j-test.true) in
    let here : HasPosition level i (get_or c.loop-j.queries (c.args.from + c.loop-j.j) no_query) c.loop-j.j c.find_all.new.self =
    subst (λ (q : SelectQuery). HasPosition level i q c.loop-j.j c.find_all.new.self) (sym (c.loop-j.invariant.after (c.args.from + c.loop-j.j) (omega arith))) placed in
    position_above c.found-above.result p c.digit.result same here c.found-above.ensures c.digit.ensures some from

pub loop-j-preserved : goal.loop-j-preserved
loop-j-preserved g c =
    changed_item c.loop-j.invariant (omega (arith, c.requires.inside, c.loop-j-test.true)) c.rise.result (c.rise.ensures.rank, c.rise.ensures.symbol, c.rise.ensures.seeks)

pub returns : goal.returns
returns g c =
    let v : List Bool = c.index-levels-k.result in
    let long : length v ≡ c.args.len = ap length c.index-levels-k.is ∙ c.requires.levels.even c.args.k v c.requires.within in
    let all : c.loop-j.j ≡ c.args.n = omega arith in
    record { each = rw all at c.loop-j.invariant; adds = rw long at c.find_all.ensures.adds }

pub rise-requires-clause-levels : goal.rise-requires-clause-levels
rise-requires-clause-levels g c = c.requires.levels
