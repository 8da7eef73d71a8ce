-- The laws that proofs of other crates may cite. A crate above imports this file and no other of this folder.
use Rattle.vers_bits.proofs.Names.{arith, ◌≡◌, ℕ, ◌+◌, ◌-◌, ◌*◌, ◌%◌, ◌/◌, ◌^◌, ◌<◌, ◌≤◌, min, suc, Bool, true, false, cond, eqb, ltb, List, [], ◌∷◌, ◌++◌, length, map, take, drop, get_or, slice_get, Option, None, Some, bool_byte, count_ones, sum_by, filter, find, flat_map, YieldsFirst, YieldsLast, MakesProgress, item_count, bit_at, count_leading_zeros, AllPairs, count_by, last_or, get_or_default, bit_value, number, low_bits, pack, is_bit, count, positions, select, position_after, position_before, limb, limbs, limb_count, Span, TakesNth, TakesNthBack, TakesFirst, TakesLast, items_in}
-- `IsPosition bit bits r p`: position p is number r of those that have the bit
pub use Rattle.vers_bits.proofs.Positions.{IsPosition}
use Rattle.vers_bits.proofs.Num as Num
use Rattle.vers_bits.proofs.LowBits as LowBits
use Rattle.vers_bits.proofs.Gather as Gather
use Rattle.vers_bits.proofs.Highest as Highest
use Rattle.vers_bits.proofs.Count as Count
use Rattle.vers_bits.proofs.PositionSums as PositionSums
use Rattle.vers_bits.proofs.Positions as Positions
use Rattle.vers_bits.proofs.Neighbours as Neighbours
use Rattle.vers_bits.proofs.Passing as Passing
use Rattle.vers_bits.proofs.Packed as Packed
use Rattle.vers_bits.proofs.BothEnds as BothEnds
use Rattle.vers_bits.proofs.Equal as Equal
use Rattle.vers_bits.proofs.Growing as Growing

-- ---- counts

-- a count is at most the position, and at most the length
pub count_le : (bit : Bool) (bits : List Bool) (i : ℕ) → (count bit bits i ≤ i) × (count bit bits i ≤ length bits)
count_le = Count.count_le

-- a count is at most that of the whole list
pub count_le_all : (bit : Bool) (bits : List Bool) (i : ℕ) → count bit bits i ≤ count bit bits (length bits)
count_le_all = Count.count_le_all

-- nothing is before the first position
pub count_none : (bit : Bool) (bits : List Bool) → count bit bits 0 ≡ 0
count_none = Count.count_none

-- past the end all count
pub count_past : (bit : Bool) (bits : List Bool) (i : ℕ) → length bits ≤ i → count bit bits i ≡ count bit bits (length bits)
count_past = Count.count_past

-- a count never falls from a position to a later one
pub count_up : (bit : Bool) (bits : List Bool) (i j : ℕ) → i ≤ j → count bit bits i ≤ count bit bits j
count_up = Count.count_up

-- between two positions a count rises by at most the positions between them
pub count_near : (bit : Bool) (bits : List Bool) (i j : ℕ) → i ≤ j → count bit bits j ≤ count bit bits i + (j - i)
count_near = Count.count_near

-- each position has a zero or a one
pub count_both : (bits : List Bool) (i : ℕ) → count false bits i + count true bits i ≡ min i (length bits)
count_both = Count.count_both

-- past a position that has the bit the count is one more, past another it is the same
pub count_more_yes : (bit : Bool) (bits : List Bool) (p : ℕ) → p < length bits → is_bit bit (get_or bits p false) ≡ true → count bit bits (p + 1) ≡ count bit bits p + 1
count_more_yes = Positions.count_more_yes

pub count_more_no : (bit : Bool) (bits : List Bool) (p : ℕ) → p < length bits → is_bit bit (get_or bits p false) ≡ false → count bit bits (p + 1) ≡ count bit bits p
count_more_no = Positions.count_more_no

-- the ones below a position of a limb are those before the limb, and those of the limb's low bits
pub count_limb : (bits : List Bool) (k r : ℕ) → r ≤ 64 → count true bits (64 * k + r) ≡ count true bits (64 * k) + count_ones (limb bits k % 2 ^ r)
count_limb = Count.count_limb

pub count_limb_whole : (bits : List Bool) (k : ℕ) → count true bits (64 * k + 64) ≡ count true bits (64 * k) + count_ones (limb bits k)
count_limb_whole = Count.count_limb_whole

-- ---- positions

-- the positions of a bit before the others
pub positions-cons : (bit b : Bool) (bits : List Bool) → positions bit (b ∷ bits) ≡ cond (is_bit bit b) (0 ∷ []) [] ++ map (λ i. 1 + i) (positions bit bits)
positions-cons = PositionSums.positions-cons

-- a number is the sum of the powers of two at the positions of its ones
pub number-positions : (bits : List Bool) → number bits ≡ sum_by (λ i. 2 ^ i) (positions true bits)
number-positions = PositionSums.number-positions

-- all positions are as many as the whole list counts
pub length-positions : (bit : Bool) (bits : List Bool) → length (positions bit bits) ≡ count bit bits (length bits)
length-positions = Positions.length-positions

-- if there is a position of number r, `select` is that position
pub select_is_position : (bit : Bool) (bits : List Bool) (r : ℕ) → r < count bit bits (length bits) → IsPosition bit bits r (select bit bits r)
select_is_position = Positions.select_is_position

-- a position that has the bit is the one with the number that its count gives
pub select_at : (bit : Bool) (bits : List Bool) (r p : ℕ) → p < length bits → is_bit bit (get_or bits p false) ≡ true → count bit bits p ≡ r → select bit bits r ≡ p
select_at = Positions.select_at

-- past the last number `select` is the length
pub select_past : (bit : Bool) (bits : List Bool) (r : ℕ) → count bit bits (length bits) ≤ r → select bit bits r ≡ length bits
select_past = Positions.select_past

-- the count up to the position of number r, and past it
pub count_at_select : (bit : Bool) (bits : List Bool) (r : ℕ) → r < count bit bits (length bits)
    → (select bit bits r < length bits) × (count bit bits (select bit bits r) ≡ r) × (count bit bits (select bit bits r + 1) ≡ r + 1)
count_at_select = Positions.count_at_select

-- number r is below p if more than r positions below p have the bit, and not below p if at most r do
pub select_below : (bit : Bool) (bits : List Bool) (r p : ℕ) → r < count bit bits p → select bit bits r < p
select_below = Positions.select_below

pub select_not_below : (bit : Bool) (bits : List Bool) (r p : ℕ) → r < count bit bits (length bits) → count bit bits p ≤ r → p ≤ select bit bits r
select_not_below = Positions.select_not_below

-- a greater number is at a later position
pub select_up : (bit : Bool) (bits : List Bool) (r q : ℕ) → r < q → q < count bit bits (length bits) → select bit bits r < select bit bits q
select_up bit bits r q h some = grind (arith, select_below, count_at_select)

-- number r of the first n positions is there, has the bit, and r are before it
pub select_holds : (bit : Bool) (bits : List Bool) (r n : ℕ) → n ≤ length bits → r < count bit bits n
    → (select bit bits r < n) × (is_bit bit (get_or bits (select bit bits r) false) ≡ true) × (count bit bits (select bit bits r) ≡ r)
select_holds bit bits r n h few = grind (arith, select_is_position, count_le_all, select_below)

-- ---- neighbours

-- the neighbour above p is number `count (p + 1)`, if there is one
pub position_after_some : (bit : Bool) (bits : List Bool) (p : ℕ) → count bit bits (p + 1) < count bit bits (length bits) → position_after bit bits p ≡ Some (select bit bits (count bit bits (p + 1)))
position_after_some = Neighbours.position_after_some

pub position_after_none : (bit : Bool) (bits : List Bool) (p : ℕ) → count bit bits (length bits) ≤ count bit bits (p + 1) → position_after bit bits p ≡ None
position_after_none = Neighbours.position_after_none

-- there is none above a position past the end
pub position_after_past : (bit : Bool) (bits : List Bool) (p : ℕ) → length bits ≤ p → position_after bit bits p ≡ None
position_after_past bit bits p h = position_after_none bit bits p (omega (arith, count_past bit bits (p + 1) (omega arith)))

-- the neighbour below p is the last of those that `count p` counts, where it counts some
pub position_before_some : (bit : Bool) (bits : List Bool) (p : ℕ) → 0 < count bit bits p → position_before bit bits p ≡ Some (select bit bits (count bit bits p - 1))
position_before_some = Neighbours.position_before_some

pub position_before_none : (bit : Bool) (bits : List Bool) (p : ℕ) → count bit bits p ≡ 0 → position_before bit bits p ≡ None
position_before_none = Neighbours.position_before_none

-- ---- numbers of bits

-- the number of n bits is below 2 ^ n
pub number-lt : (bits : List Bool) → number bits < 2 ^ length bits
number-lt = Num.number-lt

-- digit i of the number is bit i
pub bit_at-number : (bits : List Bool) (i : ℕ) → bit_at (number bits) i ≡ bit_value (get_or bits i false)
bit_at-number = Num.bit_at-number

-- of a number that is not 0 the highest one is as far below digit 63 as it has leading zeros
pub highest_bit : (w : ℕ) → 0 < w → w < 18446744073709551616
    → (count_leading_zeros 64 w < 64) × (bit_at w (63 - count_leading_zeros 64 w) ≡ 1) × ((i : ℕ) → 63 - count_leading_zeros 64 w < i → bit_at w i ≡ 0)
highest_bit = Highest.highest_bit

-- without the low k bits the number is divided by 2 ^ k
pub number-drop : (k : ℕ) (bits : List Bool) → number (drop k bits) ≡ number bits / 2 ^ k
number-drop = Num.number-drop

-- the n low bits of v are n bits, and their number is v modulo 2 ^ n
pub length-low_bits : (v n : ℕ) → length (low_bits v n) ≡ n
length-low_bits = LowBits.length-low_bits

pub number-low_bits : (v n : ℕ) → number (low_bits v n) ≡ v % 2 ^ n
number-low_bits = LowBits.number-low_bits

-- they are those of v modulo 2 ^ n, and continue with those of v without them
pub low_bits_of_rest : (v n : ℕ) → low_bits (v % 2 ^ n) n ≡ low_bits v n
low_bits_of_rest = LowBits.low_bits_of_rest

pub low_bits-add : (v j k : ℕ) → low_bits v (j + k) ≡ low_bits v j ++ low_bits (v / 2 ^ j) k
low_bits-add = LowBits.low_bits-add

-- ---- lists

-- inside a list no default is taken
pub any_default : {X : Type 0} (xs : List X) (i : ℕ) (d e : X) → i < length xs → get_or xs i d ≡ get_or xs i e
any_default = get_or_default

-- a test that no element passes after one that fails is passed by the first elements, as many as it counts
pub passes_first : (p : ℕ → Bool) (xs : List ℕ) → AllPairs (λ x y. p y ≡ true → p x ≡ true) xs → (k : ℕ) → k < length xs → p (get_or xs k 0) ≡ ltb k (count_by p xs)
passes_first = Passing.passes_first

-- the first item that passes a test, where none before number k does; no item passes; the last item that passes, where those up to number k do and no other does
pub find_is : (p : ℕ → Bool) (s : List ℕ) (k : ℕ) → k ≤ length s → ((i : ℕ) → i < k → p (get_or s i 0) ≡ false) → (k < length s → p (get_or s k 0) ≡ true) → find p s ≡ slice_get s k
find_is = Neighbours.find_is

pub none_passing : (o : Option ℕ) (p : ℕ → Bool) (s : List ℕ) → ((i : ℕ) → i < length s → p (get_or s i 0) ≡ false) → last_or o (filter p s) ≡ o
none_passing = Neighbours.none_passing

pub last_passing_is : (o : Option ℕ) (p : ℕ → Bool) (s : List ℕ) (k : ℕ) → k < length s → ((i : ℕ) → i < k + 1 → p (get_or s i 0) ≡ true)
    → ((i : ℕ) → k + 1 ≤ i → i < length s → p (get_or s i 0) ≡ false) → last_or o (filter p s) ≡ slice_get s k
last_passing_is = Neighbours.last_passing_is

-- ---- iterators from both ends, over the items at the positions of a span

-- a span of all positions has all items
pub all_items : {X : Type 0} (xs : List X) (s : Span) → s.from ≡ 0 → s.to ≡ length xs → items_in xs s ≡ xs
all_items = BothEnds.all_items

-- it has as many items as positions
pub length-items_in : {X : Type 0} (xs : List X) (s : Span) → s.to ≤ length xs → length (items_in xs s) ≡ s.to - s.from
length-items_in = BothEnds.length-items_in

-- a span that dropped n positions and gave the next took item n, and one that had no more than n positions ended
pub gave : {X : Type 0} (n : ℕ) (xs : List X) (s t : Span) {old : List X} {p : ℕ} {x : X} → items_in xs s ≡ old → s.to ≤ length xs
    → (p ≡ s.from + n) × (p < s.to) × (t.from ≡ p + 1) × (t.to ≡ s.to) → slice_get xs p ≡ Some x → TakesNth n old (Some x) (items_in xs t)
gave n xs s t view within some is = BothEnds.gave n xs s t view within some is

pub ended : {X : Type 0} (n : ℕ) (xs : List X) (s t : Span) {old : List X} {r : Option X} → items_in xs s ≡ old → (s.to ≤ s.from + n) × (t.from ≡ s.to) × (t.to ≡ s.to)
    → r ≡ None → TakesNth n old r (items_in xs t)
ended n xs s t view none is = BothEnds.ended n xs s t view none is

-- the same from the back
pub gave_back : {X : Type 0} (n : ℕ) (xs : List X) (s t : Span) {old : List X} {p : ℕ} {x : X} → items_in xs s ≡ old → s.to ≤ length xs
    → (p + n + 1 ≡ s.to) × (s.from ≤ p) × (t.from ≡ s.from) × (t.to ≡ p) → slice_get xs p ≡ Some x → TakesNthBack n old (Some x) (items_in xs t)
gave_back n xs s t view within some is = BothEnds.gave_back n xs s t view within some is

pub ended_back : {X : Type 0} (n : ℕ) (xs : List X) (s t : Span) {old : List X} {r : Option X} → items_in xs s ≡ old → (s.to ≤ s.from + n) × (t.from ≡ s.to) × (t.to ≡ s.to)
    → r ≡ None → TakesNthBack n old r (items_in xs t)
ended_back n xs s t view none is = BothEnds.ended_back n xs s t view none is

-- what was taken first, or last, is what the traits of the standard library promise
pub yields_first : {X : Type 0} (old : List X) (r : Option X) (new : List X) → TakesFirst old r new → YieldsFirst (λ (s : List X). s) old r new
yields_first = BothEnds.yields_first

pub yields_last : {X : Type 0} (old : List X) (r : Option X) (new : List X) → TakesLast old r new → YieldsLast (λ (s : List X). s) old r new
yields_last = BothEnds.yields_last

pub goes_first : {X : Type 0} (can : List X → Type 0) (old : List X) (r : Option X) (new : List X) → can new → TakesFirst old r new → MakesProgress can (item_count (λ s. s)) old r new
goes_first = BothEnds.goes_first

pub goes_last : {X : Type 0} (can : List X → Type 0) (old : List X) (r : Option X) (new : List X) → can new → TakesLast old r new → MakesProgress can (item_count (λ s. s)) old r new
goes_last = BothEnds.goes_last

-- what was taken last is the last item
pub last_is : {X : Type 0} (old : List X) (r : Option X) (new : List X) → TakesLast old r new → r ≡ last_or None old
last_is = BothEnds.last_is

-- bits as numbers are as many as the bits, and item p is bit p
pub length-bits : (bits : List Bool) → length (map bit_value bits) ≡ length bits
length-bits = BothEnds.length-bits

pub bit_item : (bits : List Bool) (p : ℕ) (x : ℕ) → p < length (map bit_value bits) → x ≡ bit_value (get_or bits p false) → slice_get (map bit_value bits) p ≡ Some x
bit_item = BothEnds.bit_item

-- ---- numbers of bits

-- the number of the first k bits
pub number-take : (k : ℕ) (l : List Bool) → number (take k l) ≡ number l % 2 ^ k
number-take = Num.number-take

-- a number of few digits is small
pub number_below : (l : List Bool) (k : ℕ) → length l ≤ k → number l < 2 ^ k
number_below = Gather.number_below

-- the value of a bit determines it
pub bit_value_le : (b : Bool) → bit_value b ≤ 1
bit_value_le = Num.bit_value_le

pub value_none : (x : Bool) → bit_value x ≡ 0 → x ≡ false
value_none x e = grind arith

pub value_one : (x : Bool) → bit_value x ≡ 1 → x ≡ true
value_one x e = grind arith

pub bit_value_test : (m : ℕ) → m < 2 → bit_value (eqb m 1) ≡ m
bit_value_test = LowBits.bit_value_test

pub test_bit_value : (b : Bool) → eqb (bit_value b) 1 ≡ b
test_bit_value = LowBits.test_bit_value

-- a bit of the part from p on, and of a limb, by its number
pub part_bit : (l : List Bool) (p n i : ℕ) → i < n → bit_at (number (take n (drop p l))) i ≡ bit_value (get_or l (p + i) false)
part_bit = Num.part_bit

pub limb_bit : (l : List Bool) (k i : ℕ) → i < 64 → bit_at (limb l k) i ≡ bit_value (get_or l (64 * k + i) false)
limb_bit = Num.limb_bit

-- the highest digit of a number
pub top_bit : (n m : ℕ) → 2 ^ m ≤ n → n < 2 ^ suc m → bit_at n m ≡ 1
top_bit = Highest.top_bit

-- ---- bits that are gathered in a word

pub byte_value : (b : Bool) → bool_byte b ≡ bit_value b
byte_value = Gather.byte_value

-- the number of the items from position i on, by that of the items after it
pub number_from : {X : Type 0} (f : X → Bool) (xs : List X) (i j : ℕ) (x : X) → i < length xs → j ≡ i + 1 → x ≡ get_or xs i x
    → 2 * number (map f (drop j xs)) + bit_value (f x) ≡ number (map f (drop i xs))
number_from f xs i j x h next is = Gather.number_from f xs i j x h next is

-- the items that were gathered in a word go over to the list of bits
pub limb_gathered : {X : Type 0} (f : X → Bool) (l more : List Bool) (rest front back : List X) (m w : ℕ) → front ≡ take m rest → back ≡ drop m rest
    → w ≡ number (map f front) → more ≡ l ++ low_bits w (length front) → more ++ map f back ≡ l ++ map f rest
limb_gathered f l more rest front back m w first last word grown = Gather.limb_gathered f l more rest front back m w first last word grown

-- ---- all limbs of a list

-- they are as many as the bits fill, and number k of them is limb k
pub length-limbs : (bits : List Bool) → length (limbs bits) ≡ limb_count (length bits)
length-limbs = Equal.length-limbs

pub get_or-limbs : (bits : List Bool) (k : ℕ) → k < limb_count (length bits) → get_or (limbs bits) k 0 ≡ limb bits k
get_or-limbs = Equal.get_or-limbs

-- lists of one length with the same limbs are one list
pub equal_limbs : (xs ys : List Bool) → length xs ≡ length ys → limbs xs ≡ limbs ys → xs ≡ ys
equal_limbs = Equal.equal_limbs

-- ---- packed items

-- items of k bits each take k bits each
pub length-packed : {X : Type 0} (f : X → ℕ) (k : ℕ) (xs : List X) → length (flat_map (λ x. low_bits (f x) k) xs) ≡ length xs * k
length-packed f k xs = Growing.length-packed f k xs

-- element e of a packed list has the low bits of item e
pub element_in_pack : (items : List ℕ) (k e : ℕ) → e < length items → take k (drop (e * k) (pack items k)) ≡ low_bits (get_or items e 0) k
element_in_pack = Packed.element_in_pack

-- the low bits of the number of some bits are the bits
pub low_bits_of_part : (bits : List Bool) (p n : ℕ) → p + n ≤ length bits → low_bits (number (take n (drop p bits))) n ≡ take n (drop p bits)
low_bits_of_part = Growing.low_bits_of_part
