-- Parts that say the elements of a list in order are those of the list, and those of a list say its elements.
use Rattle.vers_sorted.proofs.Names.{◌≡◌, ℕ, zero, suc, ◌+◌, ◌-◌, ◌*◌, ◌/◌, ◌^◌, ◌<◌, ◌≤◌, Bool, true, false, List, [], length, take, drop, refl, sym, ap, subst, ◌∙◌, inl, inr, arith, slice_index, map, range_with_len, IsNonDecreasing, cases_lt, eq-eqb, eqb-true, ne_eqb, le-leb, leb-true, lt-ltb, ltb-true, div-mul-add, mod-mul-add, mul_comm, length-map-range_with_len, get_or-map-range_with_len, get_or_default, same_number_lists, same_lists, number, select, count, positions, length-positions, first_of, last_of, low_width, width, high_of, low_of, high_length, high_position, high_parts, low_parts, low_count, high_count, element, elements, ArePartsOf, IsPacked, each_next, order_of}
use Rattle.vers_bits.proofs.PublicLaws.{number_below}
use Rattle.std.proofs.lemmas.List.{length-take}
use Rattle.vers_sorted.specs.inside.Decoding.{AreDecodable, IsDecodable, IsNear, above, follows}
use Rattle.vers_sorted.proofs.Chunks.{low_held}
use Rattle.vers_sorted.proofs.Holds.{hold_high, hold_low, length-high_parts, packs}
use Rattle.vers_sorted.proofs.Makes.{first_last, first_none, last_none}
use Rattle.vers_sorted.proofs.Ones as Ones
use Rattle.vers_sorted.proofs.Orders as Orders
use Rattle.vers_sorted.proofs.Packed.{length-elements, packed_as}
use Rattle.vers_sorted.proofs.Split.{high_up, high_zeros, element_from, parts_sum}

-- ---- orders

up_by : (rising : Bool) (s : List ℕ) → each_next (order_of rising) s ≡ true → IsNonDecreasing s
up_by true s h = Ones.ascends s (Orders.rising s h)
up_by false s h = Orders.ascending s h

pub in_order_up : (rising : Bool) (s : List ℕ) → each_next (order_of rising) s ≡ true → IsNonDecreasing s
in_order_up rising s h = up_by rising s h

shifted_up : (rising : Bool) (f a b : ℕ) → order_of rising a b ≡ true → order_of rising (f + a) (f + b) ≡ true
shifted_up true f a b h = lt-ltb (f + a) (f + b) (omega (arith, ltb-true a b h))
shifted_up false f a b h = le-leb (f + a) (f + b) (omega (arith, leb-true a b h))

shifted_down : (rising : Bool) (f a b : ℕ) → f ≤ a → f ≤ b → order_of rising a b ≡ true → order_of rising (a - f) (b - f) ≡ true
shifted_down true f a b from_a from_b h = lt-ltb (a - f) (b - f) (omega (arith, ltb-true a b h))
shifted_down false f a b from_a from_b h = le-leb (a - f) (b - f) (omega (arith, leb-true a b h))

pub follows_next : (rising : Bool) (k a b : ℕ) → 0 < k → follows rising k a b ≡ order_of rising a b
follows_next rising k a b some = rw (ne_eqb k 0 (λ e. absurd (omega (arith, e)))) refl

-- ---- parts that say a list

module _ (rising : Bool) (high low : List Bool) (first span w n : ℕ) (some : 0 < n) (wide : w ≡ width n span) (long_low : length low ≡ n * w) (long_high : length high ≡ 2 + n + span / 2 ^ w)
    (ones : count true high (length high) ≡ n) (decoded : AreDecodable rising high low span w n) where
  decoded_list : List ℕ
  decoded_list = elements high low first w n

  many : length decoded_list ≡ n
  unfolding decoded_list
  many = length-elements high low first w n

  at_decoded : (i : ℕ) → i < n → slice_index decoded_list i ≡ first + above high low w i
  unfolding decoded_list elements
  at_decoded i h = get_or-map-range_with_len (element high low first w) 0 n i i 0 h (omega arith)

  none_above : above high low w 0 ≡ 0
  none_above = eqb-true (above high low w 0) 0 ((decoded.each 0 some).next)

  first_decoded : first_of decoded_list ≡ first
  first_decoded = at_decoded 0 some ∙ omega (arith, none_above)

  last_decoded : last_of decoded_list ≡ first + span
  last_decoded = ap (λ k. slice_index decoded_list (k - 1)) many ∙ at_decoded (n - 1) (omega arith) ∙ ap (λ k. first + k) decoded.end

  width_decoded : low_width decoded_list ≡ w
  unfolding low_width
  width_decoded =
      let back : last_of decoded_list - first_of decoded_list ≡ span = omega (arith, last_decoded, first_decoded) in
      ap (λ k. width k (last_of decoded_list - first_of decoded_list)) many ∙ ap (width n) back ∙ sym wide

  part_small : (i : ℕ) → number (take w (drop (w * i) low)) < 2 ^ w
  part_small i = number_below (take w (drop (w * i) low)) w (omega (arith, length-take w (drop (w * i) low)))

  offset : (i : ℕ) → i < n → slice_index decoded_list i - first_of decoded_list ≡ (select true high i - i - 1) * 2 ^ w + number (take w (drop (w * i) low))
  offset i h = omega (arith, at_decoded i h, first_decoded, mul_comm (2 ^ w) (select true high i - i - 1))

  high_decoded : (i : ℕ) → i < n → high_of decoded_list (slice_index decoded_list i) ≡ select true high i - i - 1
  unfolding high_of
  high_decoded i h = rw (offset i h, width_decoded) (div-mul-add (select true high i - i - 1) (2 ^ w) (number (take w (drop (w * i) low))) (part_small i))

  low_decoded : (i : ℕ) → i < n → low_of decoded_list (slice_index decoded_list i) ≡ number (take w (drop (w * i) low))
  unfolding low_of
  low_decoded i h = rw (offset i h, width_decoded) (mod-mul-add (select true high i - i - 1) (2 ^ w) (number (take w (drop (w * i) low))) (part_small i))

  position_decoded : (i : ℕ) → i < n → high_position decoded_list i ≡ select true high i
  position_decoded i h = omega (arith, high_decoded i h, (decoded.each i h).near.zero)

  total_decoded : high_length decoded_list ≡ length high
  unfolding high_of
  total_decoded =
      let back : last_of decoded_list - first_of decoded_list ≡ span = omega (arith, last_decoded, first_decoded) in
      let top : high_of decoded_list (last_of decoded_list) ≡ span / 2 ^ w = ap (λ k. k / 2 ^ low_width decoded_list) back ∙ ap (λ k. span / 2 ^ k) width_decoded in
      omega (arith, high_zeros decoded_list (omega (arith, many)), top, many, long_high)

  positions_decoded : positions true high ≡ map (high_position decoded_list) (range_with_len 0 (length decoded_list))
  unfolding select
  positions_decoded =
      let count_is : length (positions true high) ≡ n = length-positions true high ∙ ones in
      same_number_lists _ _ (count_is ∙ sym (length-map-range_with_len (high_position decoded_list) 0 (length decoded_list) ∙ many)) (λ k h.
      let inside : k < n = omega (arith, count_is) in
      get_or_default (positions true high) k 0 (length high) h ∙ sym (position_decoded k inside)
      ∙ sym (get_or-map-range_with_len (high_position decoded_list) 0 (length decoded_list) k k 0 (omega (arith, many)) (omega arith)))

  high_whole : high ≡ high_parts decoded_list
  unfolding high_parts
  high_whole = Ones.ones_at-same high (high_length decoded_list) (map (high_position decoded_list) (range_with_len 0 (length decoded_list))) (sym total_decoded) positions_decoded

  low_whole : low ≡ low_parts decoded_list
  low_whole = low_held decoded_list low (record {
    counted = rw (width_decoded, many) (long_low ∙ mul_comm n w);
    part = λ i h. rw width_decoded (sym (low_decoded i (omega (arith, many))));
  })

  ordered : each_next (order_of rising) decoded_list ≡ true
  ordered = Orders.each_next-true (order_of rising) decoded_list (λ k h.
      let next : suc k < n = omega (arith, many) in
      let back : suc k - 1 ≡ k = omega arith in
      let follow = rw back at ((decoded.each (suc k) next).next) in
      rw (at_decoded k (omega arith), at_decoded (suc k) next) (shifted_up rising first (above high low w k) (above high low w (suc k))
      (sym (follows_next rising (suc k) (above high low w k) (above high low w (suc k)) (omega arith)) ∙ follow)))

  pub list_decoded : (last : ℕ) → last ≡ first + span → (s : List ℕ) × (each_next (order_of rising) s ≡ true) × ArePartsOf s n first last low high
  list_decoded last is = (decoded_list, ordered, record { len_is = sym many; first_is = sym first_decoded; last_is = is ∙ sym last_decoded; low_is = low_whole; high_is = high_whole })

-- ---- the parts of a list

module _ (rising : Bool) (s : List ℕ) (h : each_next (order_of rising) s ≡ true) where
  up : IsNonDecreasing s
  up = up_by rising s h

  above_is : (i : ℕ) → i < length s → above (high_parts s) (low_parts s) (low_width s) i ≡ slice_index s i - first_of s
  above_is i within =
      let q : select true (high_parts s) i - i - 1 ≡ high_of s (slice_index s i) = omega (arith, (hold_high s up).position i within) in
      rw (q, (hold_low s).part i within) (omega (arith, parts_sum s (slice_index s i) (element_from s i up within), mul_comm (2 ^ low_width s) (high_of s (slice_index s i))))

  next_decoded : (i : ℕ) → i < length s → follows rising i (above (high_parts s) (low_parts s) (low_width s) (i - 1)) (above (high_parts s) (low_parts s) (low_width s) i) ≡ true
  next_decoded zero within = eq-eqb (above (high_parts s) (low_parts s) (low_width s) 0) 0 (above_is 0 within ∙ omega arith)
  next_decoded (suc k) within =
      let back : suc k - 1 ≡ k = omega arith in
      rw back (follows_next rising (suc k) (above (high_parts s) (low_parts s) (low_width s) k) (above (high_parts s) (low_parts s) (low_width s) (suc k)) (omega arith)
      ∙ rw (above_is k (omega arith), above_is (suc k) within) (shifted_down rising (first_of s) (slice_index s k) (slice_index s (suc k)) (element_from s k up (omega arith)) (element_from s (suc k) up within)
      (Orders.each_next-at (order_of rising) s k within h)))

  near_decoded : (i : ℕ) → i < length s → IsNear (last_of s - first_of s) (low_width s) i (select true (high_parts s) i)
  unfolding high_of
  near_decoded i within =
      let position = (hold_high s up).position i within in
      let top : high_of s (slice_index s i) ≤ high_of s (last_of s) = high_up s (slice_index s i) (last_of s) (up i (length s - 1) 0 (omega arith) (omega arith)) (element_from s i up within) in
      record { zero = omega (arith, position); few = omega (arith, position, top) }

  pub parts_decoded : 0 < length s → AreDecodable rising (high_parts s) (low_parts s) (last_of s - first_of s) (low_width s) (length s)
  parts_decoded some = record {
    each = λ i within. record { near = near_decoded i within; next = next_decoded i within };
    end = above_is (length s - 1) (omega arith);
  }

-- ---- their numbers of bits

pub high_count_some : (n u w : ℕ) → 0 < n → w ≡ width n u → high_count n u ≡ 2 + n + u / 2 ^ w
high_count_some n u w some wide = rw (ne_eqb n 0 (λ e. absurd (omega (arith, e))), wide) refl

pub low_counted : (s : List ℕ) → length (low_parts s) ≡ low_count (length s) (last_of s - first_of s)
unfolding low_width
low_counted s = (hold_low s).counted ∙ mul_comm (low_width s) (length s)

pub high_counted : (s : List ℕ) → length (high_parts s) ≡ high_count (length s) (last_of s - first_of s)
unfolding high_length high_of low_width
high_counted s = length-high_parts s

pub counted_of : (s : List ℕ) (n first last : ℕ) (low high : List Bool) → ArePartsOf s n first last low high → (length low ≡ low_count n (last - first)) × (length high ≡ high_count n (last - first))
counted_of s n first last low high parts =
    (rw (parts.low_is, parts.len_is, parts.first_is, parts.last_is) (low_counted s), rw (parts.high_is, parts.len_is, parts.first_is, parts.last_is) (high_counted s))

-- ---- the parts of no elements

no_bits : (l : List Bool) → length l ≡ 0 → l ≡ []
no_bits l none = same_lists l [] none (λ k d h. absurd (omega arith))

none_decoded : (rising : Bool) (low high : List Bool) → length low ≡ 0 → length high ≡ 0 → (s : List ℕ) × (each_next (order_of rising) s ≡ true) × ArePartsOf s 0 0 0 low high
none_decoded rising low high no_low no_high =
    let zero : low_count 0 0 ≡ 0 = omega arith in (
      [],
      refl,
      record {
        len_is = refl;
        first_is = refl;
        last_is = refl;
        low_is = no_bits low no_low ∙ sym (no_bits (low_parts []) (low_counted [] ∙ zero));
        high_is = no_bits high no_high ∙ sym (no_bits (high_parts []) (high_counted []));
      },
    )

none_counted : (n u : ℕ) → n ≡ 0 → (low_count n u ≡ 0) × (high_count n u ≡ 0)
none_counted n u none = rw none (omega arith, refl)

pub empty_parts : (rising : Bool) (n first last u : ℕ) (low high : List Bool) → n ≡ 0 → first ≡ 0 → last ≡ 0 → length low ≡ low_count n u → length high ≡ high_count n u
    → (s : List ℕ) × (each_next (order_of rising) s ≡ true) × ArePartsOf s n first last low high
empty_parts rising n first last u low high none no_first no_last no_low no_high =
    let counted = none_counted n u none in
    rw (none, no_first, no_last) (none_decoded rising low high (no_low ∙ counted.0) (no_high ∙ counted.1))

pub empty_ends : (s : List ℕ) (n first last : ℕ) (low high : List Bool) → ArePartsOf s n first last low high → n ≡ 0 → (first ≡ 0) × (last ≡ 0)
empty_ends s n first last low high parts none =
    (parts.first_is ∙ first_none s (sym parts.len_is ∙ none), parts.last_is ∙ last_none s (sym parts.len_is ∙ none))

-- ---- what else their ends and ones are

pub ends_up : (rising : Bool) (s : List ℕ) (n first last : ℕ) (low high : List Bool) → each_next (order_of rising) s ≡ true → ArePartsOf s n first last low high → (first ≤ last) × (count true high (length high) ≡ n)
ends_up rising s n first last low high h parts =
    (rw (parts.first_is, parts.last_is) (first_last s (up_by rising s h)), rw (parts.high_is, parts.len_is) ((hold_high s (up_by rising s h)).ones))

pub decoded_of : (rising : Bool) (s : List ℕ) (n first last w : ℕ) (low high : List Bool) → each_next (order_of rising) s ≡ true → ArePartsOf s n first last low high → 0 < n → w ≡ width n (last - first)
    → AreDecodable rising high low (last - first) w n
unfolding low_width
decoded_of rising s n first last w low high h parts some wide =
    rw (wide, parts.low_is, parts.high_is, parts.len_is, parts.first_is, parts.last_is) (parts_decoded rising s h (omega (arith, parts.len_is)))

-- ---- a list that is made of parts

pub packed_of : (s : List ℕ) (n first last w : ℕ) (low high : List Bool) → IsNonDecreasing s → ArePartsOf s n first last low high → w ≡ width n (last - first) → last < 18446744073709551616 → w < 64
    → (elements high low first w n ≡ s) × IsPacked (elements high low first w n) high low first last w
unfolding low_width
packed_of s n first last w low high ascends parts wide fits narrow =
    let own : w ≡ width (length s) (last_of s - first_of s) =
    wide ∙ ap (λ k. width k (last - first)) parts.len_is ∙ ap (λ k. width (length s) (last - k)) parts.first_is ∙ ap (λ k. width (length s) (k - first_of s)) parts.last_is in
    rw (parts.high_is, parts.low_is, parts.len_is) (packed_as s first last w ascends parts.first_is parts.last_is fits own narrow)

-- two ascending lists with the same parts are one
pub parts_tell : (s t : List ℕ) (n first last : ℕ) (low high : List Bool) → IsNonDecreasing s → IsNonDecreasing t → ArePartsOf s n first last low high → ArePartsOf t n first last low high → s ≡ t
unfolding low_width
parts_tell s t n first last low high up_s up_t parts_s parts_t =
    let decoded_s : elements high low first (width n (last - first)) n ≡ s = rw (parts_s.high_is, parts_s.low_is, parts_s.len_is, parts_s.first_is, parts_s.last_is) (packs s up_s) in
    let decoded_t : elements high low first (width n (last - first)) n ≡ t = rw (parts_t.high_is, parts_t.low_is, parts_t.len_is, parts_t.first_is, parts_t.last_is) (packs t up_t) in
    sym decoded_s ∙ decoded_t

pub ruleset laws = (packs, parts_tell)
