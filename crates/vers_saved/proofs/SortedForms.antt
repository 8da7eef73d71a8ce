-- Saved forms of ascending lists, and of lists of bits with few ones, by parts.
use Rattle.vers_saved.proofs.Names.{◌≡◌, ℕ, zero, suc, ◌+◌, ◌-◌, ◌^◌, ◌<◌, ◌≤◌, Bool, true, false, List, [], ◌∷◌, ◌++◌, length, get_or, take, drop, refl, sym, ap, subst, ◌∙◌, inl, inr, arith, cases_eq, ne_eqb, All, IsNonDecreasing, IsStrictlyIncreasing, cases_lt, and_from, and_parts, get_or_past, get_or-drop, drop-drop, drop-take, length-drop, take_all, ◌&&◌, get_or_default, get_or_append_left, length-limbs, get_or-limbs, limb, limbs, limb_count, sorted_words, sparse_words, decoded_elements, are_of_list, are_of_sparse, words_for, IsWhole, may_be_saved, each_next, each_next-ascending, each_next-rising, SORTED_LISTS, SPARSE_LISTS, count, count_at_select, length-positions, any_default, select_up}
use Rattle.std.proofs.Math.Seq.{get_or-append_right}
use Rattle.std.specs.Prelude.{nat_lt}
use Rattle.std.specs.List.{list_all}
use Rattle.std.proofs.lemmas.Bool.{lt-ltb, ltb-true}
use Rattle.std.proofs.lemmas.List.Sums.{AllPass-from_list_all, list_all-from_AllPass}
use Rattle.vers_bits.specs.Bits.{positions, select}
use Rattle.vers_sorted.proofs.PublicLaws.{in_order_up}
use Rattle.vers_sorted.specs.Layout.{first_of, last_of, high_count, low_parts, high_parts}
use Rattle.vers_sorted.specs.Sorted.{order_of}
use Rattle.vers_saved.proofs.WordBytes.{AreWords}
use Rattle.vers_saved.proofs.LimbLists.{limbs_fit}
use Rattle.vers_saved.proofs.Shapes.{bounds_are, flat_words, within_bounds, as_many, refuted, too_many}
use Rattle.vers_saved.proofs.SortedParts.{are_own, length-sorted, of_list, own_decoded}
use Rattle.vers_saved.proofs.WordLists.{whole_numbers, listed_few, listed_up, whole_listed}
use Rattle.vers_saved.specs.inside.Telling.{own_counts, positions_up, sorted_tell}

-- ---- ascending lists

pub sorted_fit : (m : List ℕ) → length m < 2 ^ 64 → first_of m < 2 ^ 64 → last_of m < 2 ^ 64 → AreWords (sorted_words m)
sorted_fit m few first last zero = few
sorted_fit m few first last (suc zero) = first
sorted_fit m few first last (suc (suc zero)) = last
sorted_fit m few first last (suc (suc (suc k))) = elim (cases_lt k (length (limbs (low_parts m)))) [
  | inl less ↦ rw (get_or_append_left (limbs (low_parts m)) (limbs (high_parts m)) 0 k less) (limbs_fit (low_parts m) k)
  | inr past ↦ rw (get_or-append_right (limbs (low_parts m)) (limbs (high_parts m)) k 0 past) (limbs_fit (high_parts m) (k - length (limbs (low_parts m))))
]

-- the words past the ends
past_ends : (m : List ℕ) (k : ℕ) → 3 ≤ k → get_or (sorted_words m) k 0 ≡ get_or (limbs (low_parts m) ++ limbs (high_parts m)) (k - 3) 0
past_ends m k h = let at : 3 + (k - 3) ≡ k = omega arith in ap (λ p. get_or (sorted_words m) p 0) (sym at) ∙ sym (get_or-drop 3 (sorted_words m) (k - 3) 0)

pub low_word : (m : List ℕ) (k : ℕ) → 3 ≤ k → k - 3 < limb_count (length (low_parts m)) → limb (low_parts m) (k - 3) ≡ get_or (sorted_words m) k 0
low_word m k h few =
    sym (past_ends m k h ∙ get_or_append_left (limbs (low_parts m)) (limbs (high_parts m)) 0 (k - 3) (omega (arith, few, length-limbs (low_parts m))) ∙ get_or-limbs (low_parts m) (k - 3) few)

pub high_word : (m : List ℕ) (k : ℕ) → 3 ≤ k → limb_count (length (low_parts m)) ≤ k - 3 → get_or (limbs (high_parts m)) (k - 3 - limb_count (length (low_parts m))) 0 ≡ get_or (sorted_words m) k 0
high_word m k h many =
    sym (past_ends m k h ∙ get_or-append_right (limbs (low_parts m)) (limbs (high_parts m)) (k - 3) 0 (omega (arith, many, length-limbs (low_parts m))) ∙ ap (λ n. get_or (limbs (high_parts m)) (k - 3 - n) 0) (length-limbs (low_parts m)))

-- there is a high bit for each element
high_least : (n u : ℕ) → n ≤ high_count n u
high_least n u = elim (cases_eq n 0) [
  | inl none ↦ omega (arith, none)
  | inr some ↦ rw (ne_eqb n 0 some) (omega arith)
]

-- as many elements as words say are a word
few_elements : (m : List ℕ) → length (sorted_words m) ≤ 288230376151711743 → length m < 2 ^ 64
few_elements m few = omega (arith, few, length-sorted m, high_least (length m) (last_of m - first_of m), (own_counts m).1)

pub elements_fit : (m : List ℕ) → AreWords m → length (sorted_words m) ≤ 288230376151711743 → AreWords (sorted_words m)
elements_fit m fit few = sorted_fit m (few_elements m few) (fit 0) (fit (length m - 1))

pub whole_sorted : (m : List ℕ) → length (sorted_words m) ≤ 288230376151711743 → AreWords (sorted_words m) → IsNonDecreasing m → IsWhole SORTED_LISTS (length (sorted_words m)) 64 (sorted_words m)
whole_sorted m few fit up =
    whole_numbers SORTED_LISTS (sorted_words m) refl refl (within_bounds SORTED_LISTS (length (sorted_words m)) 64 refl (omega (arith, few))) fit (are_own m false ((each_next-ascending m).1 up))

flat_sorted : (n : ℕ) → words_for SORTED_LISTS n 64 ≡ n
flat_sorted n = flat_words SORTED_LISTS n 64 refl ∙ omega arith

pub too_long : (n : ℕ) → 288230376151711743 < n → may_be_saved SORTED_LISTS n 64 ≡ false
too_long n many = too_many SORTED_LISTS n 64 (omega (arith, many, flat_sorted n))

pub sorted_few : (ws : List ℕ) (count width : ℕ) → IsWhole SORTED_LISTS count width ws → (count ≡ length ws) × (count ≤ 288230376151711743) × (64 ≡ width)
sorted_few ws count width whole = let b = bounds_are SORTED_LISTS count width ws refl whole in (as_many SORTED_LISTS count width ws refl refl whole, omega (arith, b), omega (arith, b))

pub of_sorted : (ws : List ℕ) (count width : ℕ) → IsWhole SORTED_LISTS count width ws → (m : List ℕ) × IsNonDecreasing m × (ws ≡ sorted_words m)
of_sorted ws count width whole = let m = of_list false ws whole.ordered in (m.0, in_order_up false m.0 m.1, m.2)

pub ruleset sorted = (sorted_few, listed_few, listed_up, too_long)

-- ---- lists of bits with few ones

rising_positions : (bits : List Bool) → IsStrictlyIncreasing (positions true bits)
unfolding select
rising_positions bits k h =
    let few : k + 1 < count true bits (length bits) = omega (arith, length-positions true bits) in
    omega (arith, select_up true bits k (k + 1) (omega arith) few, any_default (positions true bits) k (length bits) 0 (omega arith), any_default (positions true bits) (k + 1) (length bits) 0 h)

positions_below : (bits : List Bool) → All (λ p. p < length bits) (positions true bits)
unfolding select
positions_below bits k d h =
    let few : k < count true bits (length bits) = omega (arith, length-positions true bits) in
    omega (arith, (count_at_select true bits k few).0, any_default (positions true bits) k (length bits) d h)

are_sparse_own : (bits : List Bool) → are_of_sparse (sparse_words bits) ≡ true
are_sparse_own bits =
    let rise : each_next (order_of true) (positions true bits) ≡ true = (each_next-rising (positions true bits)).1 (rising_positions bits) in
    and_from _ _ (are_own (positions true bits) true rise)
    (rw (own_decoded (positions true bits) (positions_up bits)) (list_all-from_AllPass (λ p. nat_lt p (length bits)) (positions true bits) (λ k d h. lt-ltb _ _ (positions_below bits k d h))))

pub positions_fit : (bits : List Bool) → length bits < 2 ^ 64 → length (sorted_words (positions true bits)) ≤ 288230376151711743 → AreWords (sorted_words (positions true bits))
positions_fit bits small few = elements_fit (positions true bits) (λ k. elim (cases_lt k (length (positions true bits))) [
  | inl less ↦ omega (arith, positions_below bits k 0 less)
  | inr past ↦ rw (get_or_past (positions true bits) k 0 past) (omega arith)
]) few

sparse_fit : (bits : List Bool) → length bits < 2 ^ 64 → AreWords (sorted_words (positions true bits)) → AreWords (sparse_words bits)
sparse_fit bits small fit zero = small
sparse_fit bits small fit (suc k) = fit k

pub whole_sparse : (bits : List Bool) → length bits < 2 ^ 64 → length (sorted_words (positions true bits)) + 1 ≤ 288230376151711743 → AreWords (sorted_words (positions true bits))
    → IsWhole SPARSE_LISTS (length (sparse_words bits)) 64 (sparse_words bits)
whole_sparse bits small few fit =
    whole_numbers SPARSE_LISTS (sparse_words bits) refl refl (within_bounds SPARSE_LISTS (length (sparse_words bits)) 64 refl (omega (arith, few))) (sparse_fit bits small fit) (are_sparse_own bits)

pub sparse_few : (ws : List ℕ) (count width : ℕ) → IsWhole SPARSE_LISTS count width ws → (count ≡ length ws) × (count ≤ 288230376151711743) × (64 ≡ width) × (1 ≤ length ws)
sparse_few ws count width whole =
    let b = bounds_are SPARSE_LISTS count width ws refl whole in
    let same : count ≡ length ws = as_many SPARSE_LISTS count width ws refl refl whole in
    (same, omega (arith, b), omega (arith, b), omega (arith, b, same))

first_and_rest : (ws : List ℕ) → 1 ≤ length ws → ws ≡ get_or ws 0 0 ∷ drop 1 ws
first_and_rest [] some = absurd (omega arith)
first_and_rest (w ∷ ws) some = refl

pub of_sparse : (ws : List ℕ) → are_of_sparse ws ≡ true → (m : List ℕ) × IsStrictlyIncreasing m × (drop 1 ws ≡ sorted_words m) × All (λ p. p < get_or ws 0 0) m
of_sparse ws h =
    let parts = and_parts _ _ h in
    let m = of_list true (drop 1 ws) parts.0 in
    (m.0, (each_next-rising m.0).0 m.1, m.2, subst (All (λ p. p < get_or ws 0 0)) (sym m.3) (λ k d less. ltb-true _ _ (AllPass-from_list_all (λ p. nat_lt p (get_or ws 0 0)) (decoded_elements (drop 1 ws)) parts.1 k d less)))

-- the words after the first
rest_all : (ws : List ℕ) → take (length ws - 1) (drop 1 ws) ≡ drop 1 ws
rest_all ws = take_all (length ws - 1) (drop 1 ws) (omega (arith, length-drop 1 ws))

module _ (ws : List ℕ) (count width : ℕ) (whole : IsWhole SPARSE_LISTS count width ws) where
  pub sparse_rest : (m : List ℕ) × IsNonDecreasing m × (take (length ws - 1) (drop 1 ws) ≡ sorted_words m)
  sparse_rest = let m = of_sparse ws whole.ordered in (m.0, in_order_up true m.0 ((each_next-rising m.0).1 m.1), rest_all ws ∙ m.2)

  -- a list with these words has the positions of the ones
  module _ (ones : List ℕ) (up : IsNonDecreasing ones) (is : sorted_words ones ≡ take (length ws - 1) (drop 1 ws)) where
    own_ones : (of_sparse ws whole.ordered).0 ≡ ones
    own_ones =
        let m = of_sparse ws whole.ordered in
        let words : sorted_words ones ≡ sorted_words m.0 = is ∙ rest_all ws ∙ m.2 in
        sym (sorted_tell ones m.0 up (in_order_up true m.0 ((each_next-rising m.0).1 m.1)) (ap length words) refl words)

    pub ones_rise : IsStrictlyIncreasing ones
    ones_rise = subst IsStrictlyIncreasing own_ones (of_sparse ws whole.ordered).1

    pub ones_below : All (λ p. p < get_or ws 0 0) ones
    ones_below = subst (All (λ p. p < get_or ws 0 0)) own_ones (of_sparse ws whole.ordered).3

    pub sparse_again : (v : List Bool) → length v ≡ get_or ws 0 0 → positions true v ≡ ones → (length (sparse_words v) ≡ count) × (sparse_words v ≡ ws)
    sparse_again v long at =
        let few = sparse_few ws count width whole in
        let words : sparse_words v ≡ ws =
        ap (λ l. length v ∷ sorted_words l) at ∙ ap (λ n. n ∷ sorted_words ones) long ∙ ap (λ l. get_or ws 0 0 ∷ l) (is ∙ rest_all ws) ∙ sym (first_and_rest ws few.3) in
        (ap length words ∙ sym few.0, words)

-- a test of these

pub rest_words : (from n : ℕ) (ws : List ℕ) → 0 < n → drop 1 (take n (drop from ws)) ≡ take (n - 1) (drop (from + 1) ws)
rest_words from n ws some =
    let split : 1 + (n - 1) ≡ n = omega arith in
    ap (λ m. drop 1 (take m (drop from ws))) (sym split) ∙ drop-take 1 (n - 1) (drop from ws) ∙ ap (take (n - 1)) (drop-drop 1 from ws)

pub not_sparse : (t : List ℕ) → are_of_list true (drop 1 t) ≡ false → false ≡ are_of_sparse t
not_sparse t none = rw none refl

pub short_list : (ws : List ℕ) → length ws < 3 → are_of_list true ws ≡ false
short_list ws short = refuted (are_of_list true ws) (λ h. let m = of_list true ws h in omega (arith, short, ap length m.2, length-sorted m.0))

zero_less : (n : ℕ) → (n ≡ 0 → ⊥) → 0 < n
zero_less zero h = absurd (h refl)
zero_less (suc n) h = omega arith

all_below : (m : List ℕ) (len : ℕ) → All (λ p. p < len) m → list_all (λ p. nat_lt p len) m ≡ true
all_below m len all = list_all-from_AllPass (λ p. nat_lt p len) m (λ k d h. lt-ltb _ _ (all k d h))

list_all_is : (m : List ℕ) (len : ℕ) → IsNonDecreasing m → 0 < length m → list_all (λ p. nat_lt p len) m ≡ nat_lt (last_of m) len
list_all_is m len up some = elim (cases_lt (last_of m) len) [
  | inl less ↦
      all_below m len (λ k d h. omega (arith, less, up k (length m - 1) 0 (omega arith) (omega arith), get_or_default m k d 0 h)) ∙ sym (lt-ltb _ _ less)
  | inr more ↦
      refuted (list_all (λ p. nat_lt p len) m) (λ h. omega (arith, more, ltb-true _ _ (AllPass-from_list_all (λ p. nat_lt p len) m h (length m - 1) 0 (omega arith))))
      ∙ sym (refuted (nat_lt (last_of m) len) (λ h. omega (arith, more, ltb-true _ _ h)))
]

pub sparse_tested : (t : List ℕ) (len count last : ℕ) → are_of_list true (drop 1 t) ≡ true → len ≡ get_or t 0 0 → count ≡ get_or (drop 1 t) 0 0 → last ≡ get_or (drop 1 t) 2 0
    → (count ≡ 0 → true ≡ are_of_sparse t) × ((count ≡ 0 → ⊥) → nat_lt last len ≡ are_of_sparse t)
sparse_tested t len count last h is_len is_count is_last =
    let m = of_list true (drop 1 t) h in
    let many : count ≡ length m.0 = is_count ∙ ap (λ l. get_or l 0 0) m.2 in
    let end : last ≡ last_of m.0 = is_last ∙ ap (λ l. get_or l 2 0) m.2 in
    let whole : are_of_sparse t ≡ list_all (λ p. nat_lt p (get_or t 0 0)) m.0 =
    ap (λ b. b && list_all (λ p. nat_lt p (get_or t 0 0)) (decoded_elements (drop 1 t))) h ∙ ap (list_all (λ p. nat_lt p (get_or t 0 0))) (sym m.3) in (
      λ none. sym (whole ∙ all_below m.0 (get_or t 0 0) (λ k d less. absurd (omega (arith, none, many, less)))),
      λ some. ap (λ l. nat_lt last l) is_len ∙ ap (λ l. nat_lt l (get_or t 0 0)) end ∙ sym (whole ∙ list_all_is m.0 (get_or t 0 0) (in_order_up true m.0 m.1) (zero_less (length m.0) (λ e. some (many ∙ e)))),
    )

pub ruleset sparse = (sparse_few)
