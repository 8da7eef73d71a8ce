-- Saved forms of ascending lists by their parts.
use Rattle.vers_saved.proofs.Names.{◌≡◌, ℕ, ◌+◌, ◌-◌, ◌*◌, ◌%◌, ◌<◌, ◌≤◌, Bool, true, false, List, [], ◌∷◌, ◌++◌, length, get_or, take, drop, refl, sym, ap, subst, ◌∙◌, inl, inr, arith, IsNonDecreasing, cases_lt, cases_eq, and_from, and_parts, append-nil, flat_map-append, take-take, take_at, drop_at, take_all, drop-drop, take-append-drop, length-append, length-drop, length-take, get_or-take, get_or-drop, get_or_past, get_or_append_left, equal_limbs, length-limbs, limbs, limb_count, limb, pack, bits_in, decoded_low, decoded_high, decoded_elements, sorted_words, are_of_list, EndsPadded, each_next}
use Rattle.std.specs.Prelude.{nat_eq}
use Rattle.std.proofs.lemmas.Bool.Decides.{Decides-eqb}
use Rattle.std.proofs.lemmas.Slice.Eq.{slice_eq-Decides}
use Rattle.std.specs.Cmp.Lexicographic.{pointwise}
use Rattle.vers_sorted.proofs.PublicLaws.{in_order_up, parts_decode}
use Rattle.vers_sorted.specs.Layout.{ArePartsOf, first_of, last_of, low_count, high_count, low_parts, high_parts, low_width}
use Rattle.vers_sorted.specs.Sorted.{order_of}
use Rattle.vers_saved.proofs.WordBytes.{AreWords}
use Rattle.vers_saved.proofs.LimbLists.{length-pack, length-first, limbs-first, limb-first, limbs_fit, limbs_padded, ends_small}
use Rattle.vers_saved.proofs.Shapes.{refuted}
use Rattle.vers_saved.specs.inside.Telling.{own_counts}
use Rattle.vers_saved.specs.inside.SortedParts.{AreBitsIn, AreEndsOf}

-- ---- words of others

pub cut_within : (from n k : ℕ) (ws : List ℕ) → k < length (take n (drop from ws)) → (from + k < length ws) × (k < n)
cut_within from n k ws h = omega (arith, length-take n (drop from ws), length-drop from ws)

pub cut_word : (from n k : ℕ) (ws : List ℕ) → k < length (take n (drop from ws)) → get_or ws (from + k) 0 ≡ get_or (take n (drop from ws)) k 0
cut_word from n k ws h = sym (get_or-take n (drop from ws) k 0 (cut_within from n k ws h).1 ∙ get_or-drop from ws k 0)

pub ruleset cuts = (cut_within, cut_word)

append-none : (ws : List ℕ) → ws ++ [] ≡ ws
append-none ws = append-nil ws

-- ---- the first bits of words

-- are those of the first words
cut_bits : (n : ℕ) (ws : List ℕ) → limb_count n ≤ length ws → bits_in n ws ≡ bits_in n (take (limb_count n) ws)
cut_bits n ws inside =
    let m : ℕ = limb_count n in
    let long : length (pack (take m ws) 64) ≡ 64 * m = length-pack (take m ws) ∙ omega (arith, length-take m ws) in
    let split : pack ws 64 ≡ pack (take m ws) 64 ++ pack (drop m ws) 64 =
    ap (λ l. pack l 64) (sym (take-append-drop m ws)) ∙ flat_map-append _ (take m ws) (drop m ws) in
    sym (take-take n (64 * m) (pack ws 64) (omega arith)) ∙ ap (λ l. take n (take (64 * m) l)) split ∙ ap (take n) (take_at (pack (take m ws) 64) (pack (drop m ws) 64) (64 * m) long)

pub own_bits : (l : List Bool) (rest : List ℕ) → bits_in (length l) (limbs l ++ rest) ≡ l
own_bits l rest =
    let n : ℕ = length l in
    let first : take (limb_count n) (limbs l ++ rest) ≡ limbs l = take_at (limbs l) rest (limb_count n) (length-limbs l) in
    let long : limb_count n ≤ length (limbs l ++ rest) = omega (arith, length-append (limbs l) rest, length-limbs l) in
    let same : length (take n (pack (limbs l) 64)) ≡ n = length-first (limbs l) n (length-limbs l) in
    cut_bits n (limbs l ++ rest) long ∙ ap (bits_in n) first
    ∙ equal_limbs (take n (pack (limbs l) 64)) l same (limbs-first (limbs l) n (length-limbs l) (limbs_fit l) (limbs_padded l))

pub taken_fit : (n : ℕ) (ws : List ℕ) → AreWords ws → AreWords (take n ws)
taken_fit n ws fit k = elim (cases_lt k n) [
  | inl less ↦ rw (get_or-take n ws k 0 less) (fit k)
  | inr past ↦ rw (get_or_past (take n ws) k 0 (omega (arith, length-take n ws))) (omega arith)
]

pub dropped_fit : (n : ℕ) (ws : List ℕ) → AreWords ws → AreWords (drop n ws)
dropped_fit n ws fit k = rw (get_or-drop n ws k 0) (fit (n + k))

taken_padded : (n : ℕ) (ws : List ℕ) → EndsPadded n ws → EndsPadded n (take (limb_count n) ws)
taken_padded n ws (inl whole) = inl whole
taken_padded n ws (inr small) = elim (cases_eq (n % 64) 0) [
  | inl whole ↦ inl whole
  | inr part ↦ inr (rw (get_or-take (limb_count n) ws (limb_count n - 1) 0 (omega arith)) small)
]

pub limbs_in : (n : ℕ) (ws : List ℕ) → limb_count n ≤ length ws → AreWords ws → EndsPadded n ws → limbs (bits_in n ws) ≡ take (limb_count n) ws
limbs_in n ws inside fit padded =
    ap limbs (cut_bits n ws inside)
    ∙ limbs-first (take (limb_count n) ws) n (omega (arith, length-take (limb_count n) ws)) (taken_fit (limb_count n) ws fit) (taken_padded n ws padded)

pub length-bits_in : (n : ℕ) (ws : List ℕ) → limb_count n ≤ length ws → length (bits_in n ws) ≡ n
length-bits_in n ws inside = length-take n (pack ws 64) ∙ omega (arith, length-pack ws)

-- the limbs of bits in words from one of them on are the words
module _ (ws : List ℕ) (from bits : ℕ) (are : AreBitsIn ws from bits) where
  pub part_len : bits ≡ length (bits_in bits (drop from ws))
  part_len = sym (length-bits_in bits (drop from ws) (omega (arith, are.within, length-drop from ws)))

  pub part_small : bits ≤ 18446744073709551552
  part_small = omega (arith, are.within, are.small)

  pub part_within : (k : ℕ) → 64 * k < length (bits_in bits (drop from ws)) → from + k < length ws
  part_within k h = omega (arith, are.within, part_len)

  pub part_fits : (k : ℕ) → from + k < length ws → from + k < 18446744073709551616
  part_fits k h = omega (arith, are.small)

  pub part_limb : (k : ℕ) → 64 * k < length (bits_in bits (drop from ws)) → get_or ws (from + k) 0 ≡ limb (bits_in bits (drop from ws)) k
  part_limb k h =
      sym (limb-first (drop from ws) bits k (omega (arith, part_len, are.within, length-drop from ws)) (omega (arith, part_len)) (dropped_fit from ws are.fit k)
      (ends_small (drop from ws) bits k (omega (arith, part_len)) are.padded) ∙ get_or-drop from ws k 0)

pub ruleset part_bits = (part_len, part_small, part_within, part_fits, part_limb)

padded_before : (l : List Bool) (rest : List ℕ) → EndsPadded (length l) (limbs l ++ rest)
padded_before l rest = elim (limbs_padded l) [
  | inl whole ↦ inl whole
  | inr small ↦ elim (cases_eq (length l % 64) 0) [
    | inl whole ↦ inl whole
    | inr part ↦ inr (rw (get_or_append_left (limbs l) rest 0 (limb_count (length l) - 1) (omega (arith, length-limbs l))) small)
  ]
]

-- ---- the words of a list

module _ (m : List ℕ) where
  pub own_low : decoded_low (sorted_words m) ≡ low_parts m
  own_low = ap (λ n. bits_in n (limbs (low_parts m) ++ limbs (high_parts m))) (sym (own_counts m).0) ∙ own_bits (low_parts m) (limbs (high_parts m))

  rest_own : drop (3 + limb_count (low_count (length m) (last_of m - first_of m))) (sorted_words m) ≡ limbs (high_parts m)
  rest_own =
      let n : ℕ = limb_count (low_count (length m) (last_of m - first_of m)) in
      sym (drop-drop n 3 (sorted_words m)) ∙ drop_at (limbs (low_parts m)) (limbs (high_parts m)) n (length-limbs (low_parts m) ∙ ap limb_count (own_counts m).0)

  pub own_high : decoded_high (sorted_words m) ≡ high_parts m
  own_high =
      ap (bits_in (high_count (length m) (last_of m - first_of m))) rest_own ∙ ap (λ n. bits_in n (limbs (high_parts m))) (sym (own_counts m).1)
      ∙ ap (bits_in (length (high_parts m))) (sym (append-none (limbs (high_parts m)))) ∙ own_bits (high_parts m) []

  pub own_decoded : IsNonDecreasing m → decoded_elements (sorted_words m) ≡ m
  unfolding decoded_elements low_width
  own_decoded up = rw (own_low, own_high) (parts_decode m up)

  pub length-sorted : length (sorted_words m) ≡ 3 + (limb_count (length (low_parts m)) + limb_count (length (high_parts m)))
  length-sorted = omega (arith, length-append (limbs (low_parts m)) (limbs (high_parts m)), length-limbs (low_parts m), length-limbs (high_parts m))

  pub are_own : (rising : Bool) → each_next (order_of rising) m ≡ true → are_of_list rising (sorted_words m) ≡ true
  unfolding are_of_list
  are_own rising h =
      rw (own_decoded (in_order_up rising m h)) (and_from _ _ h ((slice_eq-Decides Decides-eqb (sorted_words m) (sorted_words m) (pointwise nat_eq (sorted_words m) (sorted_words m)) refl).1 refl))

-- words that are those of a list
pub of_list : (rising : Bool) (ws : List ℕ) → are_of_list rising ws ≡ true → (m : List ℕ) × (each_next (order_of rising) m ≡ true) × (ws ≡ sorted_words m) × (m ≡ decoded_elements ws)
unfolding are_of_list
of_list rising ws h =
    let parts = and_parts _ _ h in
    (decoded_elements ws, parts.0, sym ((slice_eq-Decides Decides-eqb (sorted_words (decoded_elements ws)) ws (pointwise nat_eq (sorted_words (decoded_elements ws)) ws) refl).0 parts.1), refl)

-- ---- what their words say

module _ (m ws : List ℕ) (n first last low high : ℕ) (is : ws ≡ sorted_words m) (ends : AreEndsOf ws n first last low high) where
  len_own : n ≡ length m
  len_own = ends.len_is ∙ ap (λ l. get_or l 0 0) is

  first_own : first ≡ first_of m
  first_own = ends.first_is ∙ ap (λ l. get_or l 1 0) is

  last_own : last ≡ last_of m
  last_own = ends.last_is ∙ ap (λ l. get_or l 2 0) is

  pub low_own : low ≡ length (low_parts m)
  low_own = rw (ends.low_is, len_own, first_own, last_own) (sym (own_counts m).0)

  pub high_own : high ≡ length (high_parts m)
  high_own = rw (ends.high_is, len_own, first_own, last_own) (sym (own_counts m).1)

  rest_is : drop 3 ws ≡ limbs (low_parts m) ++ limbs (high_parts m)
  rest_is = ap (drop 3) is

  high_rest_is : drop (3 + limb_count low) ws ≡ limbs (high_parts m)
  high_rest_is =
      sym (drop-drop (limb_count low) 3 ws) ∙ ap (drop (limb_count low)) rest_is
      ∙ drop_at (limbs (low_parts m)) (limbs (high_parts m)) (limb_count low) (length-limbs (low_parts m) ∙ ap limb_count (sym low_own))

  pub low_bits_own : bits_in low (drop 3 ws) ≡ low_parts m
  low_bits_own = rw (rest_is, low_own) (own_bits (low_parts m) (limbs (high_parts m)))

  pub high_bits_own : bits_in high (drop (3 + limb_count low) ws) ≡ high_parts m
  high_bits_own = rw (high_rest_is, high_own) (ap (bits_in (length (high_parts m))) (sym (append-none (limbs (high_parts m)))) ∙ own_bits (high_parts m) [])

  pub parts_own : ArePartsOf m n first last (bits_in low (drop 3 ws)) (bits_in high (drop (3 + limb_count low) ws))
  parts_own = record { len_is = len_own; first_is = first_own; last_is = last_own; low_is = low_bits_own; high_is = high_bits_own }

  pub low_padded_own : EndsPadded low (drop 3 ws)
  low_padded_own =
      subst (λ l. EndsPadded low l) (sym rest_is) (subst (λ k. EndsPadded k (limbs (low_parts m) ++ limbs (high_parts m))) (sym low_own) (padded_before (low_parts m) (limbs (high_parts m))))

  pub high_padded_own : EndsPadded high (drop (3 + limb_count low) ws)
  high_padded_own = subst (λ l. EndsPadded high l) (sym high_rest_is) (subst (λ k. EndsPadded k (limbs (high_parts m))) (sym high_own) (limbs_padded (high_parts m)))

-- ---- words whose parts are those of a list

first_three : (ws : List ℕ) → 3 ≤ length ws → ws ≡ get_or ws 0 0 ∷ get_or ws 1 0 ∷ get_or ws 2 0 ∷ drop 3 ws
first_three [] h = absurd (omega arith)
first_three (a ∷ []) h = absurd (omega arith)
first_three (a ∷ b ∷ []) h = absurd (omega arith)
first_three (a ∷ b ∷ c ∷ ws) h = refl

module _ (m ws : List ℕ) (n first last low high : ℕ) (fit : AreWords ws) (ends : AreEndsOf ws n first last low high) (low_padded : EndsPadded low (drop 3 ws)) (high_padded : EndsPadded high (drop (3 + limb_count low) ws))
    (parts : ArePartsOf m n first last (bits_in low (drop 3 ws)) (bits_in high (drop (3 + limb_count low) ws))) where
  low_limbs : limbs (low_parts m) ≡ take (limb_count low) (drop 3 ws)
  low_limbs = ap limbs (sym parts.low_is) ∙ limbs_in low (drop 3 ws) (omega (arith, ends.long, length-drop 3 ws)) (dropped_fit 3 ws fit) low_padded

  high_limbs : limbs (high_parts m) ≡ drop (limb_count low) (drop 3 ws)
  high_limbs =
      let whole : length (drop (3 + limb_count low) ws) ≡ limb_count high = omega (arith, ends.long, length-drop (3 + limb_count low) ws) in
      ap limbs (sym parts.high_is) ∙ limbs_in high (drop (3 + limb_count low) ws) (omega (arith, whole)) (dropped_fit (3 + limb_count low) ws fit) high_padded
      ∙ take_all (limb_count high) (drop (3 + limb_count low) ws) (omega (arith, whole)) ∙ sym (drop-drop (limb_count low) 3 ws)

  rest_decoded : drop 3 ws ≡ limbs (low_parts m) ++ limbs (high_parts m)
  rest_decoded =
      sym (take-append-drop (limb_count low) (drop 3 ws)) ∙ ap (λ l. l ++ drop (limb_count low) (drop 3 ws)) (sym low_limbs)
      ∙ ap (λ l. limbs (low_parts m) ++ l) (sym high_limbs)

  pub words_decoded : ws ≡ sorted_words m
  words_decoded =
      first_three ws (omega (arith, ends.long))
      ∙ ap (λ a. a ∷ get_or ws 1 0 ∷ get_or ws 2 0 ∷ drop 3 ws) (sym ends.len_is ∙ parts.len_is)
      ∙ ap (λ a. length m ∷ a ∷ get_or ws 2 0 ∷ drop 3 ws) (sym ends.first_is ∙ parts.first_is)
      ∙ ap (λ a. length m ∷ first_of m ∷ a ∷ drop 3 ws) (sym ends.last_is ∙ parts.last_is)
      ∙ ap (λ l. length m ∷ first_of m ∷ last_of m ∷ l) rest_decoded

-- how many bits and words a list gives
pub decoded_counts : (m ws : List ℕ) (n first last : ℕ) → ws ≡ sorted_words m → n ≡ get_or ws 0 0 → first ≡ get_or ws 1 0 → last ≡ get_or ws 2 0
    → (low_count n (last - first) ≡ length (low_parts m)) × (high_count n (last - first) ≡ length (high_parts m)) × (length ws ≡ 3 + (limb_count (length (low_parts m)) + limb_count (length (high_parts m))))
decoded_counts m ws n first last is len_is first_is last_is =
    let own_n : n ≡ length m = len_is ∙ ap (λ l. get_or l 0 0) is in
    let own_first : first ≡ first_of m = first_is ∙ ap (λ l. get_or l 1 0) is in
    let own_last : last ≡ last_of m = last_is ∙ ap (λ l. get_or l 2 0) is in
    let span : last - first ≡ last_of m - first_of m = ap (λ k. k - first) own_last ∙ ap (λ k. last_of m - k) own_first in (
      ap (λ k. low_count k (last - first)) own_n ∙ ap (low_count (length m)) span ∙ sym (own_counts m).0,
      ap (λ k. high_count k (last - first)) own_n ∙ ap (high_count (length m)) span ∙ sym (own_counts m).1,
      ap length is ∙ length-sorted m,
    )

-- the same of the words of the parts alone
pub parts_cut : (m ws : List ℕ) (n first last low high r : ℕ) → ws ≡ sorted_words m → AreEndsOf ws n first last low high → r ≡ limb_count low
    → ArePartsOf m n first last (bits_in low (take (3 + r - 3) (drop 3 ws))) (bits_in high (take (length ws - (3 + r)) (drop (3 + r) ws)))
parts_cut m ws n first last low high r is ends r_is =
    let back : 3 + r - 3 ≡ limb_count low = omega (arith, r_is) in
    let whole : take (length ws - (3 + r)) (drop (3 + r) ws) ≡ drop (3 + r) ws = take_all (length ws - (3 + r)) (drop (3 + r) ws) (omega (arith, length-drop (3 + r) ws)) in
    rw (whole, back, r_is) (subst (λ l. ArePartsOf m n first last l (bits_in high (drop (3 + limb_count low) ws))) (cut_bits low (drop 3 ws) (omega (arith, ends.long, length-drop 3 ws))) (parts_own m ws n first last low high is ends))

-- a test of a list by its words: `no` follows if they are none's, and `yes` if they are those of m
pub none_of_list : (rising : Bool) (ws : List ℕ) → ((m : List ℕ) → each_next (order_of rising) m ≡ true → ws ≡ sorted_words m → ⊥) → false ≡ are_of_list rising ws
none_of_list rising ws none = sym (refuted (are_of_list rising ws) (λ h. let m = of_list rising ws h in none m.0 m.1 m.2))

pub list_tested : (rising r : Bool) (ws : List ℕ) → (r ≡ true → (m : List ℕ) × (each_next (order_of rising) m ≡ true) × (ws ≡ sorted_words m))
    → (r ≡ false → (m : List ℕ) → each_next (order_of rising) m ≡ true → ws ≡ sorted_words m → ⊥) → r ≡ are_of_list rising ws
list_tested rising true ws pass fail = let m = pass refl in sym (ap (are_of_list rising) m.2 ∙ are_own m.0 rising m.1)
list_tested rising false ws pass fail = none_of_list rising ws (fail refl)
