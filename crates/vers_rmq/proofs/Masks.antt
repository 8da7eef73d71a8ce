-- Masks of least positions.
use Rattle.vers_rmq.proofs.Names.{◌≡◌, ◌≢◌, ℕ, ◌+◌, ◌-◌, ◌*◌, ◌/◌, ◌%◌, ◌^◌, ◌<◌, ◌≤◌, List, get_or, sym, ap, ◌∙◌, inl, inr, arith, bit_and, bit_or, bit_at, w128, trailing_zeros, pow-le-pow_right, pow_pos, shr-shr, leading_top, div_below, and_le_l, shl_below, bit_at_and, bit_at_or, bit_at_ones, bit_at_ones_above, bit_at_above, bit_at-lt, bit_at-trailing_zeros, bit_at-zero, bit_at_cat_low, bit_at_cat_high, ones_shr, same_from_bits, cases_lt, IsFirstLeast, IsLastSet, IsFirstSet, AddsOne, PrefixUpTo, SuffixFrom, IsPrefixMask, IsSuffixMask, part_end, count_leading_zeros}
use Rattle.std.specs.Int.Bits.{or_zero_r}
use Rattle.vers_rmq.proofs.Minima.{least_at, least_longer, least_earlier, least_ends}
use Rattle.vers_bits.proofs.PublicLaws.{top_bit}

-- the items at two least positions are the same
same_value : (xs : List ℕ) (i j m n : ℕ) → IsFirstLeast xs i j m → IsFirstLeast xs i j n → get_or xs m 0 ≤ get_or xs n 0
same_value xs i j m n a b = a.least n b.from b.to

-- ---- a prefix mask of one part
pub prefix_start : (xs : List ℕ) (s f mask : ℕ) → s ≤ f → AddsOne 0 mask (f - s) → PrefixUpTo xs s f (f + 1) mask f
prefix_start xs s f mask sf a = grind (arith, bit_at-zero, least_at, least_ends)

-- an item below the least so far
pub prefix_more : (xs : List ℕ) (s f k mask more least : ℕ) → PrefixUpTo xs s f k mask least → get_or xs k 0 < get_or xs least 0 → AddsOne mask more (k - s)
    → PrefixUpTo xs s f (k + 1) more k
prefix_more xs s f k mask more least u lt a =
    let here : IsFirstLeast xs f k k = least_earlier xs f f (k - 1) k k least k u.best (least_at xs k) (omega arith) (omega arith) (omega arith) (omega arith) lt in
    record {
      base = u.base;
      some = omega arith;
      first = grind arith;
      positions = λ j p g h t. elim (cases_lt (s + j) k) [
        | inl old ↦ u.positions j p g old (grind arith)
        | inr new ↦ elim (cases_lt p j) [
          | inl less ↦ absurd (omega (arith, a.here, t.clear (k - s) (omega arith) (omega arith)))
          | inr same ↦ grind arith
        ]
      ];
      best = grind arith;
      above = grind arith;
      below = grind arith;
    }

-- items of which none is below the least so far
pub prefix_skip : (xs : List ℕ) (s f k e mask least m : ℕ) → k < e → PrefixUpTo xs s f k mask least → IsFirstLeast xs k (e - 1) m → get_or xs least 0 ≤ get_or xs m 0
    → PrefixUpTo xs s f e mask least
prefix_skip xs s f k e mask least m ke u b le =
    record {
      base = u.base;
      some = omega arith;
      first = u.first;
      positions = λ j p g h t. elim (cases_lt (s + j) k) [
        | inl old ↦ u.positions j p g old t
        | inr new ↦ elim (cases_lt p (k - s)) [
          | inl on ↦
              let before : IsFirstLeast xs f (s + (k - 1 - s)) (s + p) = u.positions (k - 1 - s) p (omega arith) (omega arith) (record { within = omega arith; set_at = t.set_at; clear = λ q y l. t.clear q y (omega arith) }) in
              let here : IsFirstLeast xs f (k - 1) (s + p) = least_ends xs f (s + (k - 1 - s)) (k - 1) (s + p) (omega arith) before in
              least_longer xs f (k - 1) k (s + j) (e - 1) (s + p) m here b (omega arith) (omega arith) (omega arith) (omega arith) (omega (arith, same_value xs f (k - 1) (s + p) least here u.best))
          | inr off ↦ absurd (omega (arith, t.set_at, u.above p (omega arith)))
        ]
      ];
      best = least_longer xs f (k - 1) k (e - 1) (e - 1) least m u.best b (omega arith) (omega arith) (omega arith) (omega arith) le;
      above = λ q h. u.above q (omega arith);
      below = u.below;
    }

-- ---- a suffix mask of one part
pub suffix_start : (xs : List ℕ) (s k mask : ℕ) → s ≤ k → AddsOne 0 mask (k - s) → SuffixFrom xs s k (k + 1) mask k
suffix_start xs s k mask sk a = grind (arith, bit_at-zero, least_at, least_ends)

-- an item not above the least after it
pub suffix_more : (xs : List ℕ) (s k n e mask more least : ℕ) → s ≤ k → n ≡ k + 1 → SuffixFrom xs s n e mask least → get_or xs k 0 ≤ get_or xs least 0 → AddsOne mask more (k - s)
    → SuffixFrom xs s k e more k
suffix_more xs s k n e mask more least sk en u le a =
    let here : IsFirstLeast xs k (e - 1) k = least_longer xs k k n (e - 1) (e - 1) k least (least_at xs k) u.best (omega arith) (omega arith) (omega arith) (omega arith) le in
    record {
      base = sk;
      some = omega arith;
      last = grind arith;
      positions = λ i p h f t. elim (cases_lt k (s + i)) [
        | inl old ↦ u.positions i p (omega arith) f (grind arith)
        | inr new ↦ elim (cases_lt i p) [
          | inl less ↦ absurd (omega (arith, a.here, t.clear (k - s) (omega arith) (omega arith)))
          | inr same ↦ grind arith
        ]
      ];
      best = here;
      above = grind arith;
      below = grind arith;
    }

-- items that are all above the least after them
pub suffix_skip : (xs : List ℕ) (s c k e mask least m : ℕ) → s ≤ c → c < k → SuffixFrom xs s k e mask least → IsFirstLeast xs c (k - 1) m → get_or xs least 0 < get_or xs m 0
    → SuffixFrom xs s c e mask least
suffix_skip xs s c k e mask least m sc ck u b lt =
    record {
      base = sc;
      some = omega arith;
      last = u.last;
      positions = λ i p h f t. elim (cases_lt (s + i) k) [
        | inl new ↦ elim (cases_lt p (k - s)) [
          | inl off ↦ absurd (omega (arith, t.set_at, u.below p (omega arith)))
          | inr on ↦
              let after : IsFirstLeast xs (s + (k - s)) (e - 1) (s + p) = u.positions (k - s) p (omega arith) (omega arith) (record { within = on; set_at = t.set_at; clear = λ q g l. t.clear q (omega arith) l }) in
              let ek : s + (k - s) ≡ k = omega arith in
              let here : IsFirstLeast xs k (e - 1) (s + p) = rw ek at after in
              least_earlier xs c (s + i) (k - 1) k (e - 1) m (s + p) b here (omega arith) (omega arith) (omega arith) (omega arith) (omega (arith, same_value xs k (e - 1) (s + p) least here u.best))
        ]
        | inr old ↦ u.positions i p old f t
      ];
      best = least_earlier xs c c (k - 1) k (e - 1) m least b u.best (omega arith) (omega arith) (omega arith) (omega arith) lt;
      above = u.above;
      below = λ q h. u.below q (omega arith);
    }

-- ---- bits that are put into a mask from position o on
placed_high : (n o d : ℕ) → bit_at (n * 2 ^ o) (d + o) ≡ bit_at n d
placed_high n o d =
    let whole : n * 2 ^ o ≡ n * 2 ^ o + 0 = omega arith in
    grind (arith, bit_at_cat_high, pow_pos)

placed_low : (n o q : ℕ) → q < o → bit_at (n * 2 ^ o) q ≡ 0
placed_low n o q h =
    let whole : n * 2 ^ o ≡ n * 2 ^ o + 0 = omega arith in
    grind (arith, bit_at_cat_low, bit_at-zero)

placed_other : (bits more d o q : ℕ) → AddsOne bits more d → q ≢ d + o → bit_at (more * 2 ^ o) q ≡ bit_at (bits * 2 ^ o) q
placed_other bits more d o q a ne = elim (cases_lt q o) [
  | inl low ↦ grind (arith, placed_low)
  | inr high ↦ let e : q ≡ q - o + o = omega arith in rw (e, placed_high more o (q - o), placed_high bits o (q - o)) (a.others (q - o) (omega arith))
]

-- one bit more makes one 1 more in the mask
pub merged_one : (mask bits more d o t : ℕ) → t ≡ d + o → AddsOne bits more d → AddsOne (bit_or mask (bits * 2 ^ o)) (bit_or mask (more * 2 ^ o)) t
merged_one mask bits more d o t e a = grind (arith, bit_at_or, placed_high, bit_at-lt, placed_other)

pub merged_none : (mask o : ℕ) → bit_or mask (0 * 2 ^ o) ≡ mask
merged_none mask o = let z : 0 * 2 ^ o ≡ 0 = omega arith in ap (bit_or mask) z ∙ or_zero_r mask

-- ---- the highest and the lowest 1
some_bit : (n i : ℕ) → bit_at n i ≡ 1 → 0 < n
some_bit n i h = elim (cases_lt 0 n) [ inl y ↦ y | inr z ↦ let e : n ≡ 0 = omega arith in absurd (omega (arith, bit_at-zero i, rw e at h)) ]

shifted_bit : (n i d : ℕ) → bit_at n (i + d) ≡ bit_at (n / 2 ^ i) d
shifted_bit n i d = sym (ap (λ m. m % 2) (shr-shr n i d))

pub first_is : (mask i : ℕ) → 0 < mask / 2 ^ i → mask < 2 ^ 128 → IsFirstSet mask i (i + trailing_zeros w128 (mask / 2 ^ i))
first_is mask i some fits =
    let few : mask / 2 ^ i < 2 ^ 128 = div_below mask (2 ^ i) (2 ^ 128) (pow_pos i) (omega (arith, fits, pow_pos i)) in
    let t = bit_at-trailing_zeros w128 (mask / 2 ^ i) some few in
    record {
      within = omega arith;
      set_at = grind (arith, shifted_bit);
      clear = λ q f l. let e : q ≡ i + (q - i) = omega arith in grind (arith, shifted_bit);
    }

-- bits of which none is from d on
narrow : (mask d : ℕ) → ((q : ℕ) → d ≤ q → bit_at mask q ≡ 0) → mask < 2 ^ d
narrow mask d h =
    let none : mask / 2 ^ d ≡ 0 = same_from_bits (mask / 2 ^ d) 0 (λ i. sym (shifted_bit mask d i) ∙ h (d + i) (omega arith) ∙ sym (bit_at-zero i)) in
    omega (arith, pow_pos d, ap (λ r. r * 2 ^ d) none)

-- few bits have room in the mask
pub few_bits : (bits n o : ℕ) → n + o ≤ 128 → ((q : ℕ) → n ≤ q → bit_at bits q ≡ 0) → bits * 2 ^ o < 2 ^ 128
few_bits bits n o room none = omega (arith, shl_below bits n o (narrow bits n none), pow-le-pow_right {n = 2} (omega arith) {i = n + o} {j = 128} room)

-- ---- the loops over a part
-- one bit more, if none is from n on
pub none_above : (bits more d n : ℕ) → d < n → AddsOne bits more d → ((q : ℕ) → n ≤ q → bit_at bits q ≡ 0) → (q : ℕ) → n ≤ q → bit_at more q ≡ 0
none_above bits more d n dn a none q h = grind arith

-- ---- masks of parts
-- one part is all
pub prefix_alone : (xs : List ℕ) (w s k mask least : ℕ) → ((j : ℕ) → s + j < k → w * (j / w) ≡ 0) → PrefixUpTo xs s s k mask least
    → IsPrefixMask xs w s k mask
prefix_alone xs w s k mask least one u = record {
  starts = λ j h. let e : w * (j / w) ≡ s - s = omega (arith, one j h) in ap (bit_at mask) e ∙ u.first;
  positions = λ j p h t. let e : s + w * (j / w) ≡ s = omega (arith, one j h) in rw e (u.positions j p (omega arith) h t);
  above = u.above;
}

pub suffix_alone : (xs : List ℕ) (w s k e mask least : ℕ) → ((i : ℕ) → k ≤ s + i → s + i < e → e ≤ s + (w * (i / w) + w))
    → SuffixFrom xs s k e mask least → IsSuffixMask xs w s k e mask
suffix_alone xs w s k e mask least one u = record {
  ends = λ i h f. let q : part_end w s e i - 1 - s ≡ e - 1 - s = omega (arith, one i h f) in ap (bit_at mask) q ∙ u.last;
  positions = λ i p h f t. least_ends xs (s + i) (e - 1) (part_end w s e i - 1) (s + p) (omega (arith, one i h f)) (u.positions i p h f t);
  above = u.above;
  below = u.below;
}

-- a part more
pub prefix_part : (xs : List ℕ) (s k e mask part least : ℕ) → 16 * ((k - s) / 16) ≡ k - s → e ≤ k + 16 → IsPrefixMask xs 16 s k mask → PrefixUpTo xs s k e part least
    → IsPrefixMask xs 16 s e (bit_or mask part)
prefix_part xs s k e mask part least aligned few m u =
    record {
      starts = grind (arith, bit_at_or, bit_at-lt);
      positions = λ j p h t. elim (cases_lt (s + j) k) [
        | inl old ↦
            let keeps : (q : ℕ) → q ≤ j → bit_at (bit_or mask part) q ≡ bit_at mask q = λ q l. grind (arith, bit_at_or) in
            m.positions j p old (grind arith)
        | inr new ↦
            let keeps : (q : ℕ) → k ≤ s + q → bit_at (bit_or mask part) q ≡ bit_at part q = λ q l. grind (arith, bit_at_or) in
            let e : s + 16 * (j / 16) ≡ k = omega arith in
            elim (cases_lt p (k - s)) [
              | inl less ↦ absurd (omega (arith, u.first, keeps (k - s) (omega arith), t.clear (k - s) less (omega arith)))
              | inr rest ↦ rw e (u.positions j p new h (grind arith))
            ]
      ];
      above = grind (arith, bit_at_or);
    }

pub suffix_part : (xs : List ℕ) (s c k e mask part least : ℕ) → 16 * ((c - s) / 16) ≡ c - s → k ≡ c + 16 → k ≤ e → IsSuffixMask xs 16 s k e mask → SuffixFrom xs s c k part least
    → IsSuffixMask xs 16 s c e (bit_or mask part)
suffix_part xs s c k e mask part least aligned next ke m u =
    record {
      ends = grind (arith, bit_at_or, bit_at-lt);
      positions = λ i p h f t. elim (cases_lt (s + i) k) [
        | inl new ↦
            let keeps : (q : ℕ) → s + q < k → bit_at (bit_or mask part) q ≡ bit_at part q = λ q l. grind (arith, bit_at_or) in
            elim (cases_lt (k - 1 - s) p) [
              | inl more ↦ absurd (omega (arith, u.last, keeps (k - 1 - s) (omega arith), t.clear (k - 1 - s) (omega arith) more))
              | inr rest ↦ least_ends xs (s + i) (k - 1) (part_end 16 s e i - 1) (s + p) (omega arith) (u.positions i p h new (grind arith))
            ]
        | inr old ↦
            let keeps : (q : ℕ) → k ≤ s + q → bit_at (bit_or mask part) q ≡ bit_at mask q = λ q l. grind (arith, bit_at_or) in
            m.positions i p old f (grind arith)
      ];
      above = grind (arith, bit_at_or);
      below = grind (arith, bit_at_or);
    }

-- ---- single ones
-- a mask with a 1 from i on
pub some_from : (mask i d : ℕ) → i ≤ d → bit_at mask d ≡ 1 → 0 < mask / 2 ^ i
some_from mask i d h on = some_bit (mask / 2 ^ i) (d - i) (let e : d ≡ i + (d - i) = omega arith in sym (shifted_bit mask i (d - i)) ∙ ap (bit_at mask) (sym e) ∙ on)

-- the low part of a mask, up to j
low_ones : (j : ℕ) → j < 128 → (2 ^ 128 - 1) / 2 ^ (127 - j) ≡ 2 ^ (j + 1) - 1
low_ones j h = let e : 128 - (127 - j) ≡ j + 1 = omega arith in rw e at (ones_shr 128 (127 - j) (omega arith))

some_low : (mask j : ℕ) → bit_at mask 0 ≡ 1 → 0 < bit_and mask (2 ^ (j + 1) - 1)
some_low mask j first = some_bit _ 0 (bit_at_and mask (2 ^ (j + 1) - 1) 0 ∙ omega (arith, first, bit_at_ones (j + 1) 0 (omega arith)))

-- the position of its highest 1
pub last_found : (mask j : ℕ) → j < 128 → bit_at mask 0 ≡ 1 → mask < 2 ^ 128 → IsLastSet mask j (127 - count_leading_zeros 128 (bit_and mask ((2 ^ 128 - 1) / 2 ^ (127 - j))))
last_found mask j h first fits =
    let t = leading_top 128 (bit_and mask (2 ^ (j + 1) - 1)) (some_low mask j first) (omega (arith, and_le_l mask (2 ^ (j + 1) - 1), fits)) in
    let same : (q : ℕ) → q ≤ j → bit_at (bit_and mask (2 ^ (j + 1) - 1)) q ≡ bit_at mask q =
    λ q l. grind (arith, bit_at_and, bit_at_ones, bit_at-lt) in
    let over : (q : ℕ) → j < q → bit_at (bit_and mask (2 ^ (j + 1) - 1)) q ≡ 0 = λ q l. grind (arith, bit_at_and, bit_at_ones_above) in
    rw (low_ones j h) (grind (arith, top_bit, bit_at_above))

pub last_few : (mask j : ℕ) → j < 128 → bit_at mask 0 ≡ 1 → mask < 2 ^ 128 → count_leading_zeros 128 (bit_and mask ((2 ^ 128 - 1) / 2 ^ (127 - j))) ≤ 127
last_few mask j h first fits =
    let t = leading_top 128 (bit_and mask (2 ^ (j + 1) - 1)) (some_low mask j first) (omega (arith, and_le_l mask (2 ^ (j + 1) - 1), fits)) in
    rw (low_ones j h) (omega (arith, t.1))
