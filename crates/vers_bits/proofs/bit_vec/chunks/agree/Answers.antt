use Rattle.vers_bits.proofs.Names.{◌≡◌, ◌≤◌, length, not, eqb, sym, ap, ◌∙◌, arith}
use Rattle.std.proofs.Math.Bool.{not-not}
use Rattle.vers_bits.proofs.Lanes.{compared, lanes_decide, other_lanes}
use Rattle.vers_bits.proofs.bit_vec.chunks.agree.Goals as goal

pub returns : goal.returns
returns c =
    let xs = c.args.chunk.now in
    let ys = c.args.other.now in
    let long : length xs ≡ length ys = omega (arith, c.told-chunk, c.told-other) in
    let few : length xs ≤ 64 = omega (arith, c.told-chunk) in
    let test = ap (λ m. not (not (eqb m 0))) (compared xs ys long few) ∙ not-not (eqb (other_lanes xs ys) 0) in
    let decides = lanes_decide xs ys long in
    ((λ t. decides.0 (sym test ∙ t)), (λ same. test ∙ decides.1 same))
