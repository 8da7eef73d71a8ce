-- The laws that proofs of other crates may cite. A crate above imports this file and no other of this folder.
use Rattle.vers_sorted.proofs.Names.{◌≡◌, ℕ, ◌+◌, ◌-◌, ◌<◌, ◌≤◌, Bool, true, false, List, [], ◌∷◌, ◌++◌, length, slice_get, None, refl, ◌↔◌, IsTrue, slice_index, map, nat_le, nat_lt, IsNonDecreasing, IsStrictlyIncreasing, ArePartsOf, first_of, high_count, high_parts, low_count, low_parts, low_width, elements, order_of, is_bit, positions, ones_at, each_next, below, eqb, greatest_not_above, is_element, least_not_below}
use Rattle.std.specs.Prelude.{◌||◌}
use Rattle.vers_sorted.proofs.Below as Below
use Rattle.vers_sorted.proofs.Membership as Membership
use Rattle.vers_sorted.proofs.Neighbours as Neighbours
use Rattle.vers_sorted.proofs.Ones as Ones
use Rattle.vers_sorted.proofs.Holds as Holds
use Rattle.vers_sorted.proofs.Orders as Orders
use Rattle.vers_sorted.proofs.Parted as Parted

-- ---- numbers in order

-- each number is below the next exactly if the list rises strictly
pub each_next-rising : (numbers : List ℕ) → IsTrue (each_next nat_lt numbers) ↔ IsStrictlyIncreasing numbers
each_next-rising numbers = Orders.rising_is numbers (each_next nat_lt numbers) refl

-- each number is not above the next exactly if the list ascends
pub each_next-ascending : (numbers : List ℕ) → IsTrue (each_next nat_le numbers) ↔ IsNonDecreasing numbers
each_next-ascending numbers = Orders.ascending_is numbers (each_next nat_le numbers) refl

-- ---- elements

-- a list has the element at each position, and no other
pub element_at : (elements : List ℕ) (v i : ℕ) → i < length elements → slice_index elements i ≡ v → is_element elements v ≡ true
element_at = Membership.element_at

pub not_element : (elements : List ℕ) (v : ℕ) → ((i : ℕ) → i < length elements → slice_index elements i ≡ v → ⊥) → is_element elements v ≡ false
not_element = Membership.not_element

-- by the first element, and by the last
pub element_none : (v : ℕ) → is_element [] v ≡ false
element_none = Membership.element_none

pub element_head : (first : ℕ) (elements : List ℕ) (v : ℕ) → first ≡ v → is_element (first ∷ elements) v ≡ true
element_head = Membership.element_head

pub element_tail : (first : ℕ) (elements : List ℕ) (v : ℕ) → (first ≡ v → ⊥) → is_element (first ∷ elements) v ≡ is_element elements v
element_tail = Membership.element_tail

pub element_more : (elements : List ℕ) (last v : ℕ) → is_element (elements ++ last ∷ []) v ≡ is_element elements v || eqb last v
element_more = Membership.element_more

-- ---- elements below a number

-- no more elements are below a number than there are, and no fewer below a greater number
pub below_le : (elements : List ℕ) (v : ℕ) → below elements v ≤ length elements
below_le = Below.below_le

pub below_up : (elements : List ℕ) (v w : ℕ) → v ≤ w → below elements v ≤ below elements w
below_up = Below.below_up

-- of an ascending list, the elements before position `below elements v` are below v, and those from it on are not
pub below_before : (elements : List ℕ) (v i : ℕ) → IsNonDecreasing elements → i < below elements v → slice_index elements i < v
below_before = Below.below_before

pub below_after : (elements : List ℕ) (v i : ℕ) → IsNonDecreasing elements → below elements v ≤ i → i < length elements → v ≤ slice_index elements i
below_after = Below.below_after

-- ---- neighbours of a number

-- the least element that is not below v is at position `below elements v`, or there is none
pub least_not_below_is : (elements : List ℕ) (v : ℕ) → IsNonDecreasing elements → least_not_below elements v ≡ slice_get elements (below elements v)
least_not_below_is = Neighbours.succ_is

-- the greatest element that is not above v is the last one below v + 1, if there is one
pub greatest_not_above_some : (elements : List ℕ) (v : ℕ) → IsNonDecreasing elements → 0 < below elements (v + 1) → greatest_not_above elements v ≡ slice_get elements (below elements (v + 1) - 1)
greatest_not_above_some = Neighbours.pred_some

pub greatest_not_above_none : (elements : List ℕ) (v : ℕ) → IsNonDecreasing elements → below elements (v + 1) ≡ 0 → greatest_not_above elements v ≡ None
greatest_not_above_none = Neighbours.pred_none

-- ---- bits by their positions

-- the list whose ones are at the positions of a bit has a one exactly at the positions of this bit
pub ones_at-positions : (bit : Bool) (bits : List Bool) → ones_at (positions bit bits) (length bits) ≡ map (is_bit bit) bits
ones_at-positions = Ones.ones_at-positions

-- the list of n bits whose ones are at these positions is one
pub ones_at-same : (bits : List Bool) (n : ℕ) (ones : List ℕ) → length bits ≡ n → positions true bits ≡ ones → bits ≡ ones_at ones n
ones_at-same = Ones.ones_at-same

-- ---- parts

-- a list in one of both orders ascends
pub in_order_up : (rising : Bool) (s : List ℕ) → each_next (order_of rising) s ≡ true → IsNonDecreasing s
in_order_up = Parted.in_order_up

-- the parts of an ascending list say its elements
pub parts_decode : (s : List ℕ) → IsNonDecreasing s → elements (high_parts s) (low_parts s) (first_of s) (low_width s) (length s) ≡ s
parts_decode = Holds.packs

-- how many bits they have
pub counted_parts : (s : List ℕ) (n first last : ℕ) (low high : List Bool) → ArePartsOf s n first last low high → (length low ≡ low_count n (last - first)) × (length high ≡ high_count n (last - first))
counted_parts = Parted.counted_of

-- two ascending lists with the same ends and parts are one
pub parts_tell : (s t : List ℕ) (n first last : ℕ) (low high : List Bool) → IsNonDecreasing s → IsNonDecreasing t → ArePartsOf s n first last low high → ArePartsOf t n first last low high → s ≡ t
parts_tell = Parted.parts_tell
