-- The items of the iterators over the elements.
use Rattle.vers_sorted.proofs.Names.{◌≡◌, ℕ, ◌-◌, ◌<◌, List, length, drop, sym, ap, ◌∙◌, Some, slice_get, slice_index, IsNonDecreasing, IsNonDecreasingBy-take, IsNonDecreasingBy-drop, slice_get-get_or, items_in}
use Rattle.vers_bits.specs.declared.walk.Span.{Span}

pub element_item : (s : List ℕ) (i x : ℕ) → i < length s → x ≡ slice_index s i → slice_get s i ≡ Some x
element_item s i x h is = slice_get-get_or s i 0 h ∙ ap (λ m. Some m) (sym is)

-- the elements in a span ascend too
pub span_ascends : (s : List ℕ) (span : Span) → IsNonDecreasing s → IsNonDecreasing (items_in s span)
unfolding items_in
span_ascends s span up = IsNonDecreasingBy-take (λ x. x) (span.to - span.from) (drop span.from s) (IsNonDecreasingBy-drop (λ x. x) span.from s up)

pub ruleset elements = (element_item, span_ascends)
