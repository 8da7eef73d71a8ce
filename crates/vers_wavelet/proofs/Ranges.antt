-- The elements of a range by size, and symbols that are numbers of the machine.
use Rattle.vers_wavelet.proofs.Names.{◌≡◌, ℕ, ◌+◌, ◌-◌, ◌<◌, ◌≤◌, List, [], length, get_or, Option, Some, None, refl, sym, ap, ◌∙◌, subst, arith, slice_range, IsSome, ◌↔◌, nil_from_length, cases_lt, le-leb, lt-leb, by_size, range_elements, kth_by_size, as_word}
use Rattle.vers_wavelet.proofs.BySize.{kth_some, kth_none}
use Rattle.vers_wavelet.proofs.Elements.{part_length, never, not_lt}
use Rattle.vers_wavelet.proofs.Items.{whole_range}

-- ---- the elements of a range

pub elements_inside : (items : List ℕ) (a b : ℕ) → b ≤ length items → range_elements items a b ≡ slice_range items a b
unfolding range_elements
elements_inside items a b within = rw (le-leb b (length items) within) refl

pub elements_past : (items : List ℕ) (a b : ℕ) → length items < b → range_elements items a b ≡ []
unfolding range_elements
elements_past items a b past = rw (lt-leb b (length items) past) refl

few_elements : (items : List ℕ) (a b : ℕ) → length (range_elements items a b) ≤ b - a
few_elements items a b =
    grind (arith, cases_lt (length items) b, elements_past items a b, elements_inside items a b, part_length items a b)

pub elements_reversed : (items : List ℕ) (a b : ℕ) → b ≤ a → range_elements items a b ≡ []
elements_reversed items a b order = nil_from_length (range_elements items a b) (omega (arith, few_elements items a b))

pub elements_of_all : (items : List ℕ) (n : ℕ) → n ≡ length items → range_elements items 0 n ≡ items
elements_of_all items n e = ap (range_elements items 0) e ∙ elements_inside items 0 (length items) (omega arith) ∙ whole_range items

-- ---- the element of a number

pub kth_inside : (items : List ℕ) (a b i x : ℕ) → b ≤ length items → a + i < b → x ≡ get_or (by_size (slice_range items a b)) i 0 → kth_by_size (range_elements items a b) i ≡ Some x
kth_inside items a b i x within some is = grind (arith, elements_inside, kth_some, part_length)

pub kth_past : (items : List ℕ) (a b i : ℕ) → length items < b → kth_by_size (range_elements items a b) i ≡ None
kth_past items a b i past = kth_none (range_elements items a b) i (omega (arith, ap length (elements_past items a b past)))

pub kth_few : (items : List ℕ) (a b i : ℕ) → b ≤ a + i → kth_by_size (range_elements items a b) i ≡ None
kth_few items a b i few = kth_none (range_elements items a b) i (omega (arith, few_elements items a b))

-- a range has an element of a number if it ends within the list and has more positions than the number
pub range_has_kth : (items : List ℕ) (a b i : ℕ) → IsSome (kth_by_size (range_elements items a b) i) ↔ (b ≤ length items) × (a + i < b)
range_has_kth items a b i = (
  λ some.
      let none = λ (e : kth_by_size (range_elements items a b) i ≡ None). never {X = ⊥} (subst IsSome e some) in
      (not_lt (λ past. none (kth_past items a b i past)), not_lt (λ few. none (kth_few items a b i (omega arith)))),
  λ inside. subst IsSome (sym (kth_inside items a b i _ inside.0 inside.1 refl)) refl,
)

-- ---- symbols that are numbers of the machine

pub narrow_word : (width : ℕ) (symbol : Option ℕ) → width ≤ 64 → as_word width symbol ≡ symbol
unfolding as_word
narrow_word width symbol narrow = rw (le-leb width 64 narrow) refl

pub wide_word : (width : ℕ) (symbol : Option ℕ) → 64 < width → as_word width symbol ≡ None
unfolding as_word
wide_word width symbol wide = rw (lt-leb width 64 wide) refl

pub ruleset elements = (elements_of_all, kth_inside, kth_past, kth_few, narrow_word, wide_word)
