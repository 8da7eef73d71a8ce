-- The first version of the saved form of lists of bits with few ones.
use Rattle.vers_saved.proofs.Names.{◌≡◌, ℕ, ◌+◌, ◌-◌, ◌^◌, ◌<◌, ◌≤◌, Bool, true, List, [], ◌∷◌, ◌++◌, length, get_or, take, refl, sym, ap, subst, ◌∙◌, inl, inr, arith, All, IsStrictlyIncreasing, cases_lt, get_or_push, get_or_append_left, get_or_past, get_or-take, length-append, length-take, take_more, take_all, count, each_next-rising, SPARSE_LISTS, packed_kind, position_words, IsWhole, get_or_default, length-positions, count_at_select, select_up, select_past, any_default}
use Rattle.std.proofs.lemmas.List.Kept.{AllPairs-from_increasing}
use Rattle.vers_bits.specs.Bits.{positions, select}
use Rattle.vers_saved.proofs.WordBytes.{AreWords}
use Rattle.vers_saved.proofs.Shapes.{bounds_are, within_bounds, as_many}
use Rattle.vers_saved.proofs.WordLists.{whole_numbers}

pub length-positions_form : (bits : List Bool) → length (position_words bits) ≡ count true bits (length bits) + 1
length-positions_form bits = length-append (positions true bits) (length bits ∷ []) ∙ omega (arith, length-positions true bits)

-- word k is the position of one number k, or the length
pub position_word : (bits : List Bool) (k : ℕ) → k < length (position_words bits) → select true bits k ≡ get_or (position_words bits) k 0
unfolding select
position_word bits k h = elim (cases_lt k (length (positions true bits))) [
  | inl inside ↦ any_default (positions true bits) k (length bits) 0 inside ∙ sym (get_or_append_left (positions true bits) (length bits ∷ []) 0 k inside)
  | inr past ↦
      let last : length (positions true bits) ≡ k = omega (arith, length-append (positions true bits) (length bits ∷ [])) in
      get_or_past (positions true bits) k (length bits) past ∙ sym (get_or_push (positions true bits) (length bits) 0 k last)
]

select_rises : (bits : List Bool) (k : ℕ) → k < count true bits (length bits) → select true bits k < select true bits (k + 1)
select_rises bits k h = elim (cases_lt (k + 1) (count true bits (length bits))) [
  | inl inside ↦ select_up true bits k (k + 1) (omega arith) inside
  | inr past ↦ omega (arith, (count_at_select true bits k h).0, select_past true bits (k + 1) past)
]

positions_form_rises : (bits : List Bool) → IsStrictlyIncreasing (position_words bits)
positions_form_rises bits k h =
    let inside : k < count true bits (length bits) = omega (arith, length-positions_form bits) in
    omega (arith, select_rises bits k inside, position_word bits k (omega arith), position_word bits (k + 1) h)

positions_form_fit : (bits : List Bool) → length bits < 2 ^ 64 → AreWords (position_words bits)
positions_form_fit bits small k = elim (cases_lt k (length (position_words bits))) [
  | inl inside ↦ elim (cases_lt k (count true bits (length bits))) [
    | inl one ↦ omega (arith, position_word bits k inside, (count_at_select true bits k one).0)
    | inr past ↦ omega (arith, position_word bits k inside, select_past true bits k past)
  ]
  | inr past ↦ rw (get_or_past (position_words bits) k 0 past) (omega arith)
]

pub whole_positions : (bits : List Bool) → length bits < 2 ^ 64 → count true bits (length bits) < 288230376151711743 → IsWhole (packed_kind SPARSE_LISTS) (length (position_words bits)) 64 (position_words bits)
whole_positions bits small few =
    let long = length-positions_form bits in
    whole_numbers (packed_kind SPARSE_LISTS) (position_words bits) refl refl (within_bounds (packed_kind SPARSE_LISTS) (length (position_words bits)) 64 refl (omega (arith, long)))
    (positions_form_fit bits small) ((each_next-rising (position_words bits)).1 (positions_form_rises bits))

pub positions_shape : (c w : ℕ) (words : List ℕ) → IsWhole (packed_kind SPARSE_LISTS) c w words → (c ≡ length words) × (1 ≤ length words) × (64 ≡ w) × (c ≤ 288230376151711743)
positions_shape c w words whole =
    let b = bounds_are (packed_kind SPARSE_LISTS) c w words refl whole in
    let same : c ≡ length words = as_many (packed_kind SPARSE_LISTS) c w words refl refl whole in
    (same, omega (arith, b.2), omega (arith, b.0, b.1), b.3)

pub first_rise : (c w : ℕ) (words ones : List ℕ) → IsWhole (packed_kind SPARSE_LISTS) c w words → ones ≡ take (length words - 1) words → IsStrictlyIncreasing ones
first_rise c w words ones whole is =
    subst IsStrictlyIncreasing (sym is) (λ k h.
    let inside : k + 1 < length words - 1 = omega (arith, length-take (length words - 1) words) in
    rw (get_or-take (length words - 1) words k 0 (omega arith), get_or-take (length words - 1) words (k + 1) 0 inside)
    ((each_next-rising words).0 whole.ordered k (omega arith)))

pub first_below : (c w : ℕ) (words ones : List ℕ) (last : ℕ) → IsWhole (packed_kind SPARSE_LISTS) c w words → ones ≡ take (length words - 1) words → last ≡ get_or words (length words - 1) 0
    → All (λ position. position < last) ones
first_below c w words ones last whole is is_last =
    subst (All (λ position. position < last)) (sym is) (λ k d h.
    let inside : k < length words - 1 = omega (arith, length-take (length words - 1) words) in
    rw (get_or_default (take (length words - 1) words) k d 0 h, get_or-take (length words - 1) words k 0 inside, is_last)
    (AllPairs-from_increasing words ((each_next-rising words).0 whole.ordered) k (length words - 1) 0 inside (omega arith)))

pub positions_again : (c w : ℕ) (words ones : List ℕ) (last : ℕ) (v : List Bool) → IsWhole (packed_kind SPARSE_LISTS) c w words → ones ≡ take (length words - 1) words → last ≡ get_or words (length words - 1) 0
    → length v ≡ last → positions true v ≡ ones → position_words v ≡ words
positions_again c w words ones last v whole is is_last long same =
    let some : 1 ≤ length words = (positions_shape c w words whole).1 in
    let back : length words - 1 + 1 ≡ length words = omega arith in
    ap (λ l. l ++ length v ∷ []) (same ∙ is) ∙ ap (λ n. take (length words - 1) words ++ n ∷ []) (long ∙ is_last)
    ∙ sym (take_more words (length words - 1) 0 (omega arith)) ∙ ap (λ m. take m words) back ∙ take_all (length words) words (omega arith)

pub ruleset listed = (length-positions_form, position_word, whole_positions, positions_shape, first_rise, first_below, positions_again)
