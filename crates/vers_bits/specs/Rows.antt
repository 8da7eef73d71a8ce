-- Worked rows of the definitions, which compute.
use Rattle.std.specs.Prelude.{◌≡◌, ◌+◌, Bool, true, false, List, [], ◌∷◌, Some, None, refl}
use Rattle.vers_bits.specs.Bits.{number, low_bits, count, positions, select, position_after, position_before, part_number, pack, limb, masked}

-- the bits 0110
abbrev bits_0110 : List Bool
bits_0110 = false ∷ true ∷ true ∷ false ∷ []

pub number-0110 : number bits_0110 ≡ 6
number-0110 = refl

pub low_bits-5-4 : low_bits 5 4 ≡ true ∷ false ∷ true ∷ false ∷ []
unfolding low_bits
low_bits-5-4 = refl

pub count_ones-0110-3 : count true bits_0110 3 ≡ 2
unfolding count
count_ones-0110-3 = refl

pub count_zeros-0110-3 : count false bits_0110 3 ≡ 1
unfolding count
count_zeros-0110-3 = refl

pub count_ones-0110-past : count true bits_0110 99 ≡ 2
unfolding count
count_ones-0110-past = refl

pub positions_of_ones-0110 : positions true bits_0110 ≡ 1 ∷ 2 ∷ []
unfolding positions
positions_of_ones-0110 = refl

pub select1-0110-1 : select true bits_0110 1 ≡ 2
unfolding select positions
select1-0110-1 = refl

pub select1-0110-2 : select true bits_0110 2 ≡ 4
unfolding select positions
select1-0110-2 = refl

pub select0-0110-1 : select false bits_0110 1 ≡ 3
unfolding select positions
select0-0110-1 = refl

pub one_after-0110-1 : position_after true bits_0110 1 ≡ Some 2
unfolding position_after positions
one_after-0110-1 = refl

pub one_after-0110-2 : position_after true bits_0110 2 ≡ None
unfolding position_after positions
one_after-0110-2 = refl

pub one_before-0110-9 : position_before true bits_0110 9 ≡ Some 2
unfolding position_before positions
one_before-0110-9 = refl

pub one_before-0110-1 : position_before true bits_0110 1 ≡ None
unfolding position_before positions
one_before-0110-1 = refl

-- the items 7 and 1 in 3 bits each: 111 100
pub pack-7-1 : pack (7 ∷ 1 ∷ []) 3 ≡ true ∷ true ∷ true ∷ true ∷ false ∷ false ∷ []
unfolding low_bits
pack-7-1 = refl

-- a width beyond the items' own: their upper digits are zeros
pub part_number-pack : part_number (pack (7 ∷ 255 ∷ []) 10) 10 10 ≡ Some 255
unfolding part_number low_bits
part_number-pack = refl

pub limb-0110 : limb bits_0110 0 ≡ 6
unfolding limb
limb-0110 = refl

-- a mask whose answer has ones past the length keeps none of them
pub masked-0110 : masked (λ x y. x + y + 128) bits_0110 bits_0110 ≡ false ∷ false ∷ true ∷ true ∷ []
unfolding masked limb
masked-0110 = refl
