use Rattle.vers_saved.proofs.SymbolLists.{if_ok, symbols_shape, loaded_matrix}
use Rattle.vers_saved.proofs.packed.packed_list.Goals as goal

pub returns : goal.returns
returns g c =
    let s = symbols_shape c.args.of.count c.args.of.width c.args.words.items c.requires in
    let m = c.bits_of-bits.ensures in
    if_ok c.from_bit_vec.result _ _ _
    (λ v w i. loaded_matrix c.args.of.count c.args.of.width c.bits_of-bits.result c.args.words.items v s.0 m.len m.limbs w i)
    c.from_bit_vec.ensures.width c.from_bit_vec.ensures.items
