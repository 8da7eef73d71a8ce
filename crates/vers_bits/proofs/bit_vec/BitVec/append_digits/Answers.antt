use Rattle.vers_bits.proofs.Names.{◌++◌, ◌-◌, ◌∙◌, false, replicate, ap, arith, length-append, low_bits, ◌+◌, ◌≡◌, append_assoc}
use Rattle.vers_bits.proofs.LowBits.{length-low_bits, low_bits_past}
use Rattle.vers_bits.proofs.bit_vec.BitVec.append_digits.Goals as goal

pub append_zeros-requires : goal.append_zeros-requires
append_zeros-requires g c = grind (arith, length-append, low_bits, length-low_bits)

pub returns-clause-grown : goal.returns-clause-grown
returns-clause-grown g c =
    c.in_ok-append_zeros.ensures ∙ ap (λ l. l ++ replicate (c.args.n - 64) false) c.in_ok-append_bits.ensures.grown
    ∙ (let whole : 64 + (c.args.n - 64) ≡ c.args.n = omega arith in grind (arith, append_assoc, low_bits_past))
