-- Elements that step up are those of a list in order.
use Rattle.vers_sorted.proofs.Names.{◌≡◌, ℕ, zero, suc, ◌+◌, ◌-◌, ◌*◌, ◌^◌, ◌<◌, ◌≤◌, ◌⊎◌, Bool, true, false, List, length, take, drop, refl, subst, sym, ap, ◌∙◌, inl, inr, arith, nat_lt, cases_lt, ne_eqb, eq-eqb, eqb-true, le-leb, leb-true, lt-ltb, ltb-true, pow_pos, mul-le-mul_left, bit_value, number, select, count, count_at_select, select_up, order_of}
use Rattle.std.proofs.lemmas.Bool.{false≢true, le-ltb}
use Rattle.std.proofs.lemmas.List.{length-take}
use Rattle.vers_bits.proofs.PublicLaws.{number_below}
use Rattle.vers_sorted.specs.declared.elias_fano.parts.Walk.{Walk}
use Rattle.vers_sorted.specs.inside.Decoding.{AreDecodable, AreReadAhead, HasRead, IsNear, StepsUp, above, follows, least_low, low_at, position_ahead, position_before}
use Rattle.vers_sorted.proofs.Parted.{follows_next}

-- ---- one element and the next

-- a test of order as a number
behind : (b c : ℕ) → ((b < c) × (bit_value (nat_lt b c) ≡ 1)) ⊎ ((c ≤ b) × (bit_value (nat_lt b c) ≡ 0))
behind b c = elim (cases_lt b c) [
  | inl less ↦ inl (less, ap bit_value (lt-ltb b c less))
  | inr more ↦ inr (more, ap bit_value (le-ltb b c more))
]

in_order : (rising : Bool) (x y : ℕ) → x + bit_value rising ≤ y → order_of rising x y ≡ true
in_order true x y h = lt-ltb x y (omega (arith, h))
in_order false x y h = le-leb x y (omega (arith, h))

order_says : (rising : Bool) (x y : ℕ) → order_of rising x y ≡ true → x + bit_value rising ≤ y
order_says true x y h = omega (arith, ltb-true x y h)
order_says false x y h = omega (arith, leb-true x y h)

at_most_one : (bit : Bool) → bit_value bit ≤ 1
at_most_one true = omega arith
at_most_one false = omega arith

module _ (rising : Bool) (w p q i a b : ℕ) (zero_before : i + 1 ≤ p) (past : p < q) (small_a : a < 2 ^ w) (small_b : b < 2 ^ w) where
  -- how far the two are above the first
  more : 2 ^ w * (q - suc i - 1) ≡ 2 ^ w * (p - i - 1) + 2 ^ w * (q - p - 1)
  more = let e : q - suc i - 1 ≡ p - i - 1 + (q - p - 1) = omega arith in ap (λ m. 2 ^ w * m) e ∙ omega arith

  none_between : q ≡ p + 1 → 2 ^ w * (q - p - 1) ≡ 0
  none_between e = let none : q - p - 1 ≡ 0 = omega arith in ap (λ m. 2 ^ w * m) none ∙ omega arith

  some_between : p + 1 < q → 2 ^ w ≤ 2 ^ w * (q - p - 1)
  some_between apart = omega (arith, mul-le-mul_left {m = 1} {n = q - p - 1} (2 ^ w) (omega arith))

  pub ordered : p + bit_value (nat_lt b (a + bit_value rising)) < q → order_of rising (2 ^ w * (p - i - 1) + a) (2 ^ w * (q - suc i - 1) + b) ≡ true
  ordered step = in_order rising (2 ^ w * (p - i - 1) + a) (2 ^ w * (q - suc i - 1) + b) (elim (cases_lt (p + 1) q) [
    | inl apart ↦ omega (arith, more, some_between apart, at_most_one rising)
    | inr next ↦ elim (behind b (a + bit_value rising)) [
      | inl falls ↦ absurd (omega (arith, falls.1))
      | inr rises ↦ omega (arith, more, none_between (omega arith), rises.0)
    ]
  ])

  pub stepped : order_of rising (2 ^ w * (p - i - 1) + a) (2 ^ w * (q - suc i - 1) + b) ≡ true → p + bit_value (nat_lt b (a + bit_value rising)) < q
  stepped order = elim (cases_lt (p + 1) q) [
    | inl apart ↦ omega (arith, at_most_one (nat_lt b (a + bit_value rising)))
    | inr next ↦ elim (behind b (a + bit_value rising)) [
      | inl falls ↦ absurd (omega (arith, falls.0, more, none_between (omega arith), order_says rising (2 ^ w * (p - i - 1) + a) (2 ^ w * (q - suc i - 1) + b) order))
      | inr rises ↦ omega (arith, rises.1)
    ]
  ]

-- ---- the element before

pub before_next : (high : List Bool) (i : ℕ) → position_before high (i + 1) ≡ select true high i
before_next high i = let back : i + 1 - 1 ≡ i = omega arith in rw (ne_eqb (i + 1) 0 (λ e. absurd (omega (arith, e)))) (ap (select true high) back)

pub least_next : (rising : Bool) (low : List Bool) (w i : ℕ) → least_low rising low w (i + 1) ≡ low_at low w i + bit_value rising
least_next rising low w i = let back : i + 1 - 1 ≡ i = omega arith in rw (ne_eqb (i + 1) 0 (λ e. absurd (omega (arith, e)))) (ap (λ k. low_at low w k + bit_value rising) back)

pub low_small : (low : List Bool) (w i : ℕ) → low_at low w i < 2 ^ w
low_small low w i = number_below (take w (drop (w * i) low)) w (omega (arith, length-take w (drop (w * i) low)))

pub before_within : (high : List Bool) (i : ℕ) → i ≤ count true high (length high) → position_before high i ≤ length high
before_within high zero h = omega arith
before_within high (suc i) h =
    let e : i + 1 ≡ suc i = omega arith in
    omega (arith, (count_at_select true high i (omega arith)).0, sym (ap (position_before high) e) ∙ before_next high i)

-- ---- a walk reads one more element

module _ (rising : Bool) (high low : List Bool) (w i : ℕ) (walk : Walk) (position : ℕ) (read : HasRead rising high low w i walk) (here : select true high i ≡ position) where
  part_is : number (take w (drop (position_ahead walk.lows) low)) ≡ low_at low w i
  part_is = ap (λ p. number (take w (drop p low))) read.part

  test_is : (result : Bool) → result ≡ nat_lt (walk.position + bit_value (nat_lt (number (take w (drop (position_ahead walk.lows) low))) walk.least)) position
      → result ≡ nat_lt (position_before high i + bit_value (nat_lt (low_at low w i) (least_low rising low w i))) (select true high i)
  test_is result is = is ∙ rw (read.position, part_is, read.least, here) refl

  pub passed : (result : Bool) → result ≡ nat_lt (walk.position + bit_value (nat_lt (number (take w (drop (position_ahead walk.lows) low))) walk.least)) position → result ≡ true → StepsUp rising high low w i
  passed result is held = ltb-true (position_before high i + bit_value (nat_lt (low_at low w i) (least_low rising low w i))) (select true high i) (sym (test_is result is) ∙ held)

  pub failed : (result : Bool) → result ≡ nat_lt (walk.position + bit_value (nat_lt (number (take w (drop (position_ahead walk.lows) low))) walk.least)) position → result ≡ false → StepsUp rising high low w i → ⊥
  failed result is broken steps = false≢true (sym broken ∙ test_is result is ∙ lt-ltb (position_before high i + bit_value (nat_lt (low_at low w i) (least_low rising low w i))) (select true high i) steps)

  pub one_read : (next : Walk) → StepsUp rising high low w i → next.position ≡ position → next.least ≡ number (take w (drop (position_ahead walk.lows) low)) + bit_value rising → position_ahead next.lows ≡ position_ahead walk.lows + w → AreReadAhead low next.lows
      → HasRead rising high low w (i + 1) next
  one_read next steps at least part ahead = record {
    position = at ∙ sym here ∙ sym (before_next high i);
    least = least ∙ ap (λ n. n + bit_value rising) part_is ∙ sym (least_next rising low w i);
    part = omega (arith, part, read.part);
    ahead = ahead;
    each = λ j h. elim (cases_lt j i) [
      | inl less ↦ read.each j less
      | inr same ↦ let e : i ≡ j = omega arith in subst (StepsUp rising high low w) e steps
    ];
  }

-- ---- a walk before the first element, and past the last

pub none_read : (rising : Bool) (high low : List Bool) (w : ℕ) → HasRead rising high low w 0 (record { lows = record { limbs = 0; len = 0; word = 0 }; position = 0; least = 0 })
none_read rising high low w = record {
  position = refl;
  least = refl;
  part = omega arith;
  ahead = record { few = omega arith; read = refl };
  each = λ j h. absurd (omega (arith, h));
}

pub last_read : (rising : Bool) (high low : List Bool) (w n : ℕ) (walk : Walk) → 0 < n → HasRead rising high low w n walk
    → (walk.position ≡ select true high (n - 1)) × (walk.least ≡ low_at low w (n - 1) + bit_value rising)
last_read rising high low w n walk some read =
    let e : n ≡ n - 1 + 1 = omega arith in
    (read.position ∙ ap (position_before high) e ∙ before_next high (n - 1), read.least ∙ ap (least_low rising low w) e ∙ least_next rising low w (n - 1))

-- ---- all elements

module _ (rising : Bool) (high low : List Bool) (span w n : ℕ) (some : 0 < n) (ones : count true high (length high) ≡ n) where
  step_says : (i : ℕ) → StepsUp rising high low w (i + 1) → select true high i + bit_value (nat_lt (low_at low w (i + 1)) (low_at low w i + bit_value rising)) < select true high (i + 1)
  step_says i h = rw (before_next high i, least_next rising low w i) at h

  step_from : (i : ℕ) → select true high i + bit_value (nat_lt (low_at low w (i + 1)) (low_at low w i + bit_value rising)) < select true high (i + 1) → StepsUp rising high low w (i + 1)
  step_from i h = rw (before_next high i, least_next rising low w i) h

  module _ (decoded : AreDecodable rising high low span w n) where
    first_zero : above high low w 0 ≡ 0
    first_zero = eqb-true (above high low w 0) 0 ((decoded.each 0 some).next)

    pub first_position : select true high 0 ≡ 1
    first_position = elim (cases_lt 1 (select true high 0)) [
      | inl late ↦ absurd (omega (arith, first_zero, pow_pos w, mul-le-mul_left {m = 1} {n = select true high 0 - 0 - 1} (2 ^ w) (omega arith)))
      | inr early ↦ omega (arith, (decoded.each 0 some).near.zero)
    ]

    pub first_low : number (take w (drop 0 low)) ≡ 0
    first_low = let at : w * 0 ≡ 0 = omega arith in ap (λ p. number (take w (drop p low))) (sym at) ∙ omega (arith, first_zero)

    pub decoded_steps : (i : ℕ) → i < n → StepsUp rising high low w i
    decoded_steps zero h = omega (arith, first_position, behind (low_at low w 0) 0)
    decoded_steps (suc i) h =
        let e : suc i ≡ i + 1 = omega arith in
        let back : suc i - 1 ≡ i = omega arith in
        let next = rw back at ((decoded.each (suc i) h).next) in
        let order = sym (follows_next rising (suc i) (above high low w i) (above high low w (suc i)) (omega arith)) ∙ next in
        let past : select true high i < select true high (suc i) = select_up true high i (suc i) (omega arith) (omega (arith, ones)) in
        let step = stepped rising w (select true high i) (select true high (suc i)) i (low_at low w i) (low_at low w (suc i)) ((decoded.each i (omega arith)).near.zero) past (low_small low w i) (low_small low w (suc i)) order in
        subst (StepsUp rising high low w) (sym e) (step_from i (subst (λ (k : ℕ). select true high i + bit_value (nat_lt (low_at low w k) (low_at low w i + bit_value rising)) < select true high k) e step))

  module _ (steps : (i : ℕ) → i < n → StepsUp rising high low w i) (first : select true high 0 ≡ 1) (first_low_is : number (take w (drop 0 low)) ≡ 0) where
    up : (i : ℕ) → i + 1 < n → select true high i < select true high (i + 1)
    up i h = omega (arith, step_says i (steps (i + 1) h))

    from_first : (i : ℕ) → i < n → i + 1 ≤ select true high i
    from_first zero h = omega (arith, first)
    from_first (suc i) h =
        let e : suc i ≡ i + 1 = omega arith in
        omega (arith, from_first i (omega arith), up i (omega arith), ap (select true high) e)

    spread : (i d : ℕ) → i + d < n → select true high i + d ≤ select true high (i + d)
    spread i zero h = let e : i + 0 ≡ i = omega arith in omega (arith, ap (select true high) e)
    spread i (suc d) h =
        let e : i + suc d ≡ i + d + 1 = omega arith in
        omega (arith, spread i d (omega arith), up (i + d) (omega arith), ap (select true high) e)

    first_above : above high low w 0 ≡ 0
    first_above =
        let none : select true high 0 - 0 - 1 ≡ 0 = omega (arith, first) in
        let at : w * 0 ≡ 0 = omega arith in
        ap (λ m. 2 ^ w * m + number (take w (drop (w * 0) low))) none ∙ ap (λ p. 2 ^ w * 0 + number (take w (drop p low))) at ∙ omega (arith, first_low_is)

    next_each : (i : ℕ) → i < n → follows rising i (above high low w (i - 1)) (above high low w i) ≡ true
    next_each zero h = eq-eqb (above high low w 0) 0 first_above
    next_each (suc i) h =
        let e : i + 1 ≡ suc i = omega arith in
        let back : suc i - 1 ≡ i = omega arith in
        let step = subst (λ (k : ℕ). select true high i + bit_value (nat_lt (low_at low w k) (low_at low w i + bit_value rising)) < select true high k) e (step_says i (steps (i + 1) (omega arith))) in
        let order = ordered rising w (select true high i) (select true high (suc i)) i (low_at low w i) (low_at low w (suc i)) (from_first i (omega arith)) (omega (arith, step)) (low_small low w i) (low_small low w (suc i)) step in
        rw back (follows_next rising (suc i) (above high low w i) (above high low w (suc i)) (omega arith) ∙ order)

    pub steps_decoded : IsNear span w (n - 1) (select true high (n - 1)) → above high low w (n - 1) ≡ span → AreDecodable rising high low span w n
    steps_decoded near end = record {
      each = λ i h. record {
        near = record {
          zero = from_first i h;
          few = let e : i + (n - 1 - i) ≡ n - 1 = omega arith in omega (arith, near.few, from_first i h, spread i (n - 1 - i) (omega arith), ap (select true high) e);
        };
        next = next_each i h;
      };
      end = end;
    }
