use Rattle.vers_cli.proofs.Names.{◌≡◌, ◌≤◌, ◌∷◌, refl, sym, ap, ◌∙◌, arith, option_map, le-leb, words_in, all_numbers, symbols_loaded, SymbolList}
use Rattle.vers_words.specs.Loading.{map_loading}
use Rattle.vers_cli.proofs.Packs.{packed_whole, symbols_accepted}
use Rattle.vers_cli.proofs.symbols.load.Goals as goal

pub of_packed-requires-clause-whole : goal.of_packed-requires-clause-whole
of_packed-requires-clause-whole g c =
    λ some. packed_whole (all_numbers (words_in c.in-Some.numbers.now)) c.in-Some-2.packed c.in-Some-number.width c.kept_width.result
    (c.kept_width.ensures.all (omega (arith, c.if-width-gt-WIDEST.false))) (sym c.in-Some-2.is ∙ c.in_ok-packed.ensures)

pub returns-in-Ok : goal.returns-in-Ok
returns-in-Ok g c =
    let narrow : c.in-Some-number.width ≤ 64 = omega (arith, c.if-width-gt-WIDEST.false) in
    let numbers : all_numbers (words_in c.args.arguments.now) ≡ option_map (λ items. c.in-Some-number.width ∷ items) (all_numbers (words_in c.in-Some.numbers.now)) =
    rw (c.in-Some.ensures.words, ← c.number.ensures, c.in-Some-number.is) refl in
    ap (map_loading SymbolList) (symbols_accepted (all_numbers (words_in c.in-Some.numbers.now)) c.in-Some-2.packed c.in-Some-number.width c.kept_width.result c.in-Ok.symbols
    (le-leb c.in-Some-number.width 64 narrow) (c.kept_width.ensures.all narrow) (sym c.in-Some-2.is ∙ c.in_ok-packed.ensures)
    c.in-Ok.ensures.width c.in-Ok.ensures.items
    ∙ ap symbols_loaded (sym numbers))
