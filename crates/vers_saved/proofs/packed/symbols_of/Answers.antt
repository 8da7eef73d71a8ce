use Rattle.vers_saved.proofs.Names.{map, ◌∙◌, IfOk-weaker}
use Rattle.vers_saved.proofs.SymbolLists.{symbols_shape, loaded_symbols}
use Rattle.vers_saved.proofs.packed.symbols_of.Goals as goal

pub returns : goal.returns
returns g c =
    let s = symbols_shape c.args.of.count c.args.of.width c.args.words.items c.requires.whole in
    let bits = c.bits_of-bits.result in
    let m = c.bits_of-bits.ensures in
    record {
      count = IfOk-weaker c.unpacked.result _ _ (λ v is. (loaded_symbols c.args.of.count c.args.of.width bits (map g.N.Integer.value v.items) s.0 m.len is).0) c.unpacked.ensures;
      limbs = IfOk-weaker c.unpacked.result _ _ (λ v is. (loaded_symbols c.args.of.count c.args.of.width bits (map g.N.Integer.value v.items) s.0 m.len is).1 ∙ m.limbs) c.unpacked.ensures;
      fit = IfOk-weaker c.unpacked.result _ _ (λ v is. (loaded_symbols c.args.of.count c.args.of.width bits (map g.N.Integer.value v.items) s.0 m.len is).2) c.unpacked.ensures;
    }
