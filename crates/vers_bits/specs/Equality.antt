-- Equality of lists of bits, and what hashing reads of them.
use Rattle.std.specs.Prelude.{◌≡◌, ℕ, ◌++◌, Bool, List, length, flat_map, IsTrue}
use Rattle.std.specs.Bool.{beq, Decides}
use Rattle.std.specs.Cmp.{IsEquivalence, IsPartialEquivalence, partial_equiv_from_equiv, bool_eq_equiv, booleans_Decides}
use Rattle.std.specs.Cmp.Lexicographic.{pointwise, pointwise_decides, lists_equiv}
use Rattle.std.specs.Hash as fed
use Rattle.std.specs.Hash.{same_Alike}
use Rattle.vers_bits.specs.Bits.{limbs}

-- whether two lists of bits are equal
unfoldable pub same_bits : List Bool → List Bool → Bool
same_bits = pointwise beq

-- what a hasher is fed with: the length, then each limb
unfoldable pub hash_input : List Bool → List (List ℕ)
hash_input bits = fed.usize (length bits) ++ flat_map fed.u64 (limbs bits)

pub same_bits-Decides : (x y : List Bool) → Decides (same_bits x y) (x ≡ y)
unfolding same_bits
same_bits-Decides = pointwise_decides booleans_Decides

pub same_bits_equiv : IsEquivalence same_bits
unfolding same_bits
same_bits_equiv = lists_equiv bool_eq_equiv

pub same_bits_per : IsPartialEquivalence same_bits
same_bits_per = partial_equiv_from_equiv same_bits_equiv

pub hash_input-Alike : (x y : List Bool) → IsTrue (same_bits x y) → hash_input x ≡ hash_input y
hash_input-Alike = (same_Alike hash_input same_bits-Decides).fed
