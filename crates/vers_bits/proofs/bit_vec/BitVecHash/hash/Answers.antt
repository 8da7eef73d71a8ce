use Rattle.vers_bits.proofs.Names.{◌≡◌, ◌∙◌, ap, length, take_all, fold, limbs, flat_map, hash_input}
use Rattle.std.specs.Hash as fed
use Rattle.vers_bits.proofs.bit_vec.BitVecHash.hash.Goals as goal

pub returns : goal.returns
unfolding hash_input
returns g c =
    let bits = c.args.self.now in
    let all = rw c.limbs-limb-items.ensures at c.loop-limb-test.false in
    let length_fed : c.write_usize.new.self ≡ fold g.H.Hasher.write c.args.state.now (fed.usize (length bits)) =
    c.write_usize.ensures ∙ ap (λ n. fold g.H.Hasher.write c.args.state.now (fed.usize n)) c.len.ensures.value in
    let limbs_fed : c.loop-limb.state ≡ fold g.H.Hasher.write c.write_usize.new.self (flat_map fed.u64 (limbs bits)) =
    c.loop-limb.invariant ∙ ap (λ l. fold g.H.Hasher.write c.write_usize.new.self (flat_map fed.u64 l)) (take_all c.loop-limb.limb-index (limbs bits) all) in
    fed.fed_then g.H.Hasher.write _ c.write_usize.new.self _ (fed.usize (length bits)) (flat_map fed.u64 (limbs bits)) length_fed limbs_fed
