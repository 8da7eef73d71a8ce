-- Whether a number is an element.
use Rattle.vers_sorted.proofs.Names.{◌≡◌, ℕ, ◌<◌, ◌≤◌, true, false, eqb, IsTrue, sym, ◌∙◌, eqb-true, List, length, arith, Some, slice_index, IsNonDecreasing, eq-eqb, ne_eqb, below, greatest_not_above, is_element, least_not_below, first_of, last_of, IsBucket, Bucket}
use Rattle.vers_sorted.proofs.Below.{below_le, below_from, below_to, below_before, below_after}
use Rattle.vers_sorted.proofs.Neighbours.{succ_at, pred_at, some_left, some_below}
use Rattle.vers_sorted.proofs.Membership.{element_at, not_element, element_position}
use Rattle.vers_sorted.proofs.Buckets.{start_below, in_bucket}

-- an element that is v is not the only one to test: it is the one that `below` names
element_here : (s : List ℕ) (v k j : ℕ) → IsNonDecreasing s → k ≡ below s v → k < length s → j < length s → slice_index s j ≡ v → slice_index s k ≡ v
element_here s v k j up e h short same = grind (arith, below_to, below_after)

pub found_at : (s : List ℕ) (v k : ℕ) → IsNonDecreasing s → k ≡ below s v → k < length s → eqb (slice_index s k) v ≡ is_element s v
found_at s v k up e h = grind (arith, eq-eqb, element_at, ne_eqb, not_element, element_here)

-- no element past the bucket of v is v, and none before it
pub none_past : (s : List ℕ) (v k : ℕ) (bucket : Bucket) → IsNonDecreasing s → k ≡ below s v → IsBucket s v bucket → bucket.end ≤ k → is_element s v ≡ false
none_past s v k bucket up e at past = grind (arith, not_element, below_to)

-- nor if all are above v, or below it
pub none_above : (s : List ℕ) (v : ℕ) → IsNonDecreasing s → v < first_of s → is_element s v ≡ false
none_above s v up h = not_element s v (λ j short same. absurd (omega (arith, same, up 0 j 0 (omega arith) short)))

pub all_less : (s : List ℕ) (v : ℕ) → IsNonDecreasing s → last_of s < v → is_element s v ≡ false
all_less s v up h = grind (arith, not_element)

-- a read element is an element
pub read_is_element : (s : List ℕ) (v k n : ℕ) → k < length s → n ≡ slice_index s k → IsTrue (eqb n v) → IsTrue (is_element s v)
read_is_element s v k n h e on = element_at s v k h (sym e ∙ eqb-true n v on)

-- ---- the neighbours of an element

pub least_held : (s : List ℕ) (v : ℕ) → IsNonDecreasing s → is_element s v ≡ true → least_not_below s v ≡ Some v
least_held s v up on = grind (arith, element_position, below_to, element_here, succ_at)

pub greatest_held : (s : List ℕ) (v : ℕ) → IsNonDecreasing s → is_element s v ≡ true → greatest_not_above s v ≡ Some v
greatest_held s v up on = grind (arith, element_position, below_from, below_before, below_le, pred_at)

pub ruleset elements = (in_bucket, start_below, none_above, all_less, none_past, found_at)

pub ruleset neighbours = (least_held, greatest_held, succ_at, pred_at, some_left, some_below)
