use Rattle.vers_saved.proofs.Names.{◌≡◌, ◌^◌, ◌<◌, ◌∙◌, arith, All}
use Rattle.vers_wavelet.specs.Makers.{symbol_levels}
use Rattle.vers_saved.proofs.ReadForms.{at_some}
use Rattle.vers_saved.proofs.SymbolLevels.{few_levels, made_symbols}
use Rattle.vers_saved.proofs.symbols.WaveletMatrixLoaded.make.Goals as goal

pub unwrap-requires : goal.unwrap-requires
unwrap-requires g c =
    let m = c.in_ok-levels.ensures in
    let w = few_levels c.args.of.count c.args.of.width c.args.held.now.items c.requires in
    c.from_levels.ensures.some.1 (omega (arith, m.count, w.1), (c.args.of.count, m.even))

pub returns : goal.returns
returns g c =
    let m = c.in_ok-levels.ensures in
    let w = few_levels c.args.of.count c.args.of.width c.args.held.now.items c.requires in
    let levels = at_some c.from_levels.result c.unwrap.result (λ v. symbol_levels v ≡ c.in_ok-levels.levels.items) c.unwrap.ensures c.from_levels.ensures.levels in
    let fit = at_some c.from_levels.result c.unwrap.result (λ v. All (λ y. y < 2 ^ v.width) v.items) c.unwrap.ensures c.from_levels.ensures.fit in
    let made = made_symbols c.unwrap.result c.args.of.count c.args.of.width c.args.held.now.items c.in_ok-levels.levels.items levels m.count m.even (m.words ∙ c.as_slice.ensures.value) w.0 in
    (made.0, made.1, made.2, fit)
