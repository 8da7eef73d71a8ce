-- What the masks by or, and and xor make of two limbs.
use Rattle.std.specs.Prelude.{ℕ, bit_or, bit_and, bit_xor}
use Rattle.vers_bits.specs.declared.bit_vec.mask.MaskKind.{MaskKind}
use Rattle.vers_bits.specs.declared.bit_vec.mask.MaskKind.TheVariants.{Or, And, Xor}

-- the limb that a kind of mask makes of two
abbrev pub limb_op : MaskKind → ℕ → ℕ → ℕ
limb_op Or = bit_or
limb_op And = bit_and
limb_op Xor = bit_xor
