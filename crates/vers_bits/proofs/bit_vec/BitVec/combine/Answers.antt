use Rattle.vers_bits.proofs.Names.{◌≡◌, ◌<◌, ◌∙◌, length, get_or, sym, ap, arith, limb}
use Rattle.vers_bits.proofs.Words.{length-word_bits, limb-word_bits}
use Rattle.vers_bits.proofs.Equal.{get_or-limbs, length-limbs}
use Rattle.vers_bits.proofs.Masks.{combined}
use Rattle.vers_bits.proofs.bit_vec.BitVec.combine.Goals as goal

pub combine_words-requires-clause-same : goal.combine_words-requires-clause-same
combine_words-requires-clause-same g c =
    let long = ap length c.self.view_is in
    omega (arith, c.self.invariant.counted, long, length-word_bits c.self.inside.«data».items c.self.inside.len, ap length c.limbs.ensures, length-limbs c.args.other.now, c.requires.same)

pub returns : goal.returns
returns g c = λ f h.
    let words = c.self.inside.«data».items in
    let n = c.self.inside.len in
    let xs = c.args.self.now in
    let ys = c.args.other.now in
    let long : length xs ≡ n = sym (ap length c.self.view_is) ∙ length-word_bits words n in
    combined c.cut.ensures f xs ys long
    (λ k within.
    let inside : k < length words = omega (arith, c.self.invariant.counted) in
    let mine : get_or words k 0 ≡ limb xs k = sym (limb-word_bits words n k c.self.invariant (c.combine_words.ensures.fit k)) ∙ ap (λ l. limb l k) c.self.view_is in
    let theirs : get_or c.limbs.result.now k 0 ≡ limb ys k = ap (λ l. get_or l k 0) c.limbs.ensures ∙ get_or-limbs ys k (omega (arith, c.requires.same)) in
    c.combine_words.ensures.value f h k inside ∙ ap (λ x. f x (get_or c.limbs.result.now k 0)) mine ∙ ap (f (limb xs k)) theirs)
