use Rattle.vers_wavelet.proofs.Names.{◌≡◌, ℕ, ◌+◌, ◌-◌, subst, sym, arith, slice_index, by_size}
use Rattle.vers_wavelet.proofs.Items.{number_item}
use Rattle.vers_wavelet.proofs.wavelet.iter.SortedNumbersSource.item_at.Goals as goal

pub returns-then-has-clause-value : goal.returns-then-has-clause-value
returns-then-has-clause-value g c =
    let is_one = c.has.ensures.0 c.if-has.true in
    let at : c.self.inside.found.from + (c.args.i - c.self.inside.found.from) ≡ c.args.i = omega (arith, is_one.0) in
    rw (← c.self.view_is)
    (number_item _ c.args.i _ (rw (← c.self.view_is) at c.requires)
    (sym (subst (λ (n : ℕ). slice_index (by_size (g.M.Matrix.symbols c.self.inside.matrix).items) n ≡ c.self.inside.found.symbol) at
    (c.self.invariant.2 (c.args.i - c.self.inside.found.from) is_one.1))))
