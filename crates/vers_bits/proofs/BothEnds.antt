-- Steps of iterators from both ends, for items of every type.
use Rattle.vers_bits.proofs.Names.{◌≡◌, ℕ, ◌+◌, ◌-◌, ◌<◌, ◌≤◌, List, [], ◌∷◌, ◌++◌, Bool, false, map, Option, Some, None, length, get_or, take, drop, reverse, refl, sym, ◌∙◌, ap, arith, inl, inr, last_or, YieldsFirst, YieldsLast, MakesProgress, item_count, length-map, length-take, length-drop, get_or-take, get_or-drop, get_or-reverse, length-reverse, drop-drop, drop-take, drop_all, take_all, take_more, take_at, take-take, take-append-drop, length_push, reverse-append, reverse-reverse, append-nil, cases_lt, slice_get-map, slice_get_past, slice_get_cases, slice_get-get_or, get_or_from_slice_get, slice_get_within, bit_value, limb, limbs, slice_get, append_assoc, Span, TakesNth, TakesNthBack, TakesFirst, TakesLast, items_in, nth_passes, Step, PassesEachOnce, StaysEnded, NextIsNthOfZero, NextBackIsNthBackOfZero}
use Rattle.std.proofs.lemmas.Slice.{between_from_start}
use Rattle.vers_bits.proofs.Equal.{length-limbs, get_or-limbs}
use Rattle.vers_bits.specs.Walk.Step.{next, next_back, nth, nth_back}
use Rattle.vers_bits.specs.Walk.Walk.{no_call, call}

module _ {X : Type 0} where
  -- ---- the items at the positions of a span
  pub length-items_in : (xs : List X) (s : Span) → s.to ≤ length xs → length (items_in xs s) ≡ s.to - s.from
  unfolding items_in
  length-items_in xs s h = simp (length-take, length-drop) (omega arith)

  items_in_none : (xs : List X) (s : Span) → s.to ≤ s.from → items_in xs s ≡ []
  unfolding items_in
  items_in_none xs s h = let z : s.to - s.from ≡ 0 = omega arith in rw z refl

  items_in_few : (xs : List X) (s : Span) (n : ℕ) → s.to ≤ s.from + n → length (items_in xs s) ≤ n
  unfolding items_in
  items_in_few xs s n h = rw (length-take (s.to - s.from) (drop s.from xs)) (omega arith)

  get_or-items_in : (xs : List X) (s : Span) (k : ℕ) (d : X) → k < s.to - s.from → get_or (items_in xs s) k d ≡ get_or xs (s.from + k) d
  unfolding items_in
  get_or-items_in xs s k d h = get_or-take (s.to - s.from) (drop s.from xs) k d h ∙ get_or-drop s.from xs k d

  drop-items_in : (xs : List X) (s t : Span) (n m : ℕ) → n + m ≡ s.to - s.from → t.from ≡ s.from + n → t.to ≡ s.to → drop n (items_in xs s) ≡ items_in xs t
  unfolding items_in
  drop-items_in xs s t n m e from to =
      let z : t.to - t.from ≡ m = omega arith in
      rw (← e, z, from, drop-take n m (drop s.from xs), drop-drop) refl

  -- ---- what a span that drops and gives makes of its items, where an iterator is seen as these
  pub all_items : (xs : List X) (s : Span) → s.from ≡ 0 → s.to ≡ length xs → items_in xs s ≡ xs
  unfolding items_in
  all_items xs s from to = rw (from, to) (between_from_start xs (length xs) ∙ take_all (length xs) xs (omega arith))

  pub ended : (n : ℕ) (xs : List X) (s t : Span) {old : List X} {r : Option X} → items_in xs s ≡ old → (s.to ≤ s.from + n) × (t.from ≡ s.to) × (t.to ≡ s.to)
      → r ≡ None → TakesNth n old r (items_in xs t)
  ended n xs s t view none is =
      let few : length (items_in xs s) ≤ n = items_in_few xs s n none.0 in
      rw (is, ← view) (record {
        given = sym (slice_get_past (items_in xs s) n few);
        left = items_in_none xs t (omega (arith, none.1, none.2)) ∙ sym (drop_all (n + 1) (items_in xs s) (omega arith));
      })

  pub gave : (n : ℕ) (xs : List X) (s t : Span) {old : List X} {p : ℕ} {x : X} → items_in xs s ≡ old → s.to ≤ length xs
      → (p ≡ s.from + n) × (p < s.to) × (t.from ≡ p + 1) × (t.to ≡ s.to) → slice_get xs p ≡ Some x → TakesNth n old (Some x) (items_in xs t)
  gave n xs s t {p = p} {x = x} view within some is =
      let at : get_or (items_in xs s) n x ≡ x = rw (get_or-items_in xs s n x (omega (arith, some.0, some.1)), ← some.0) (get_or_from_slice_get xs p x x is) in
      rw (← view) (record {
        given = sym (slice_get-get_or (items_in xs s) n x (omega (arith, some.0, some.1, length-items_in xs s within)) ∙ ap Some at);
        left = sym (drop-items_in xs s t (n + 1) (s.to - (p + 1)) (omega (arith, some.0, some.1)) (omega (arith, some.0, some.2)) some.3);
      })

  pub ended_back : (n : ℕ) (xs : List X) (s t : Span) {old : List X} {r : Option X} → items_in xs s ≡ old → (s.to ≤ s.from + n) × (t.from ≡ s.to) × (t.to ≡ s.to)
      → r ≡ None → TakesNthBack n old r (items_in xs t)
  ended_back n xs s t view none is =
      let few : length (items_in xs s) ≤ n = items_in_few xs s n none.0 in
      let all : length (items_in xs s) - (n + 1) ≡ 0 = omega arith in
      rw (is, ← view) (record {
        given = sym (slice_get_past (reverse (items_in xs s)) n (omega (arith, length-reverse (items_in xs s))));
        left = rw (all, items_in_none xs t (omega (arith, none.1, none.2))) refl;
      })

  pub gave_back : (n : ℕ) (xs : List X) (s t : Span) {old : List X} {p : ℕ} {x : X} → items_in xs s ≡ old → s.to ≤ length xs
      → (p + n + 1 ≡ s.to) × (s.from ≤ p) × (t.from ≡ s.from) × (t.to ≡ p) → slice_get xs p ≡ Some x → TakesNthBack n old (Some x) (items_in xs t)
  unfolding items_in
  gave_back n xs s t {p = p} {x = x} view within some is =
      let long : length (items_in xs s) ≡ s.to - s.from = length-items_in xs s within in
      let inside : n < length (items_in xs s) = omega (arith, some.0, some.1) in
      let kept : length (items_in xs s) - (n + 1) ≡ p - s.from = omega (arith, some.0, some.1) in
      let at : get_or (reverse (items_in xs s)) n x ≡ x = grind (arith, long, some, get_or-reverse (items_in xs s) n x inside, get_or-items_in xs s (p - s.from) x, get_or_from_slice_get xs p x x is) in
      rw (← view) (record {
        given = sym (slice_get-get_or (reverse (items_in xs s)) n x (omega (arith, length-reverse (items_in xs s))) ∙ ap Some at);
        left = sym (ap (λ k. take k (items_in xs s)) kept ∙ (grind (arith, take-take)));
      })

  -- ---- what the traits ask of `next` and `next_back`
  pub yields_first : (old : List X) (r : Option X) (new : List X) → TakesFirst old r new → YieldsFirst (λ (s : List X). s) old r new
  yields_first [] None new h = (refl, h.left)
  yields_first [] (Some x) new h = cc (h.given)
  yields_first (y ∷ ys) None new h = cc (h.given)
  yields_first (y ∷ ys) (Some x) new h = cc (h.given, h.left)

  last_none : (xs : List X) → None ≡ slice_get (reverse xs) 0 → xs ≡ []
  last_none [] h = refl
  last_none (x ∷ xs) h = cc (h, slice_get-get_or (reverse (x ∷ xs)) 0 x (omega (arith, length-reverse (x ∷ xs))))

  last_some : (xs : List X) (x : X) → Some x ≡ slice_get (reverse xs) 0 → xs ≡ take (length xs - 1) xs ++ x ∷ []
  last_some xs x h =
      let long : 0 < length xs = omega (arith, length-reverse xs, slice_get_within (reverse xs) 0 x (sym h)) in
      let same : length xs - 1 ≡ length xs - 1 - 0 = omega arith in
      let at : get_or xs (length xs - 1) x ≡ x = rw (same, ← get_or-reverse xs 0 x long) (get_or_from_slice_get (reverse xs) 0 x x (sym h)) in
      grind (arith, take_all, take_more)

  pub yields_last : (old : List X) (r : Option X) (new : List X) → TakesLast old r new → YieldsLast (λ (s : List X). s) old r new
  yields_last old None new h = let none = last_none old h.given in (none, h.left ∙ ap (λ l. take (length l - 1) l) none)
  yields_last old (Some x) new h = last_some old x h.given ∙ ap (λ l. l ++ x ∷ []) (sym h.left)

  -- the other way round
  takes_first : (old : List X) (taken : Option X) (new : List X) → YieldsFirst (λ (s : List X). s) old taken new → TakesFirst old taken new
  takes_first old None new h = rw (h.0, h.1) (record { given = refl; left = refl })
  takes_first old (Some x) new h = rw h (record { given = refl; left = refl })

  takes_last : (old : List X) (taken : Option X) (new : List X) → YieldsLast (λ (s : List X). s) old taken new → TakesLast old taken new
  takes_last old None new h = rw (h.0, h.1) (record { given = refl; left = refl })
  takes_last old (Some x) new h =
      let fewer : length (new ++ x ∷ []) - 1 ≡ length new = omega (arith, length_push new x) in
      rw h (record { given = rw reverse-append refl; left = rw (fewer, take_at new (x ∷ []) (length new) refl) refl })

  pub next_is_nth_of_zero : NextIsNthOfZero X
  next_is_nth_of_zero old taken new = (takes_first old taken new, yields_first old taken new)

  pub next_back_is_nth_back_of_zero : NextBackIsNthBackOfZero X
  next_back_is_nth_back_of_zero old taken new = (takes_last old taken new, yields_last old taken new)

  -- a step that gave an item leaves fewer
  goes_on : (can : List X → Type 0) (old : List X) (r : Option X) (new : List X) → can new → (length old ≡ 0 → r ≡ None) → length new ≡ length old - 1 → MakesProgress can (item_count (λ s. s)) old r new
  goes_on can old None new may ended fewer = record { on = λ _. tt; keeps = tt; rests = λ _. tt }
  goes_on can old (Some x) new may ended fewer = record { on = λ _. (may, tt, grind (arith, ended)); keeps = may; rests = λ _. tt }

  pub goes_first : (can : List X → Type 0) (old : List X) (r : Option X) (new : List X) → can new → TakesFirst old r new → MakesProgress can (item_count (λ s. s)) old r new
  goes_first can old r new may h =
      goes_on can old r new may (λ z. h.given ∙ slice_get_past old 0 (omega arith)) (ap length h.left ∙ length-drop 1 old)

  pub goes_last : (can : List X → Type 0) (old : List X) (r : Option X) (new : List X) → can new → TakesLast old r new → MakesProgress can (item_count (λ s. s)) old r new
  goes_last can old r new may h =
      goes_on can old r new may
      (λ z. h.given ∙ slice_get_past (reverse old) 0 (omega (arith, length-reverse old))) (omega (arith, ap length h.left, length-take (length old - 1) old))

  -- ---- the last item
  last_or-push : (o : Option X) (xs : List X) (x : X) → last_or o (xs ++ x ∷ []) ≡ Some x
  last_or-push o [] x = refl
  last_or-push o (y ∷ ys) x = last_or-push (Some y) ys x

  pub last_is : (old : List X) (r : Option X) (new : List X) → TakesLast old r new → r ≡ last_or None old
  last_is old None new h = rw (last_none old h.given) refl
  last_is old (Some x) new h = sym (ap (last_or None) (last_some old x h.given) ∙ last_or-push None (take (length old - 1) old) x)

  -- ---- walks
  passes_next : (n : ℕ) (l : List X) (taken : Option X) → taken ≡ slice_get l n → nth_passes n l taken ≡ take (n + 1) l
  passes_next n l taken given = elim ((slice_get_cases l n).1) [
    | inl (x, within, is, at) ↦ rw (given, is, take_more l n x within, at) refl
    | inr (past, none) ↦ rw (given, none, append-nil, take_all n l past, take_all (n + 1) l (omega arith)) refl
  ]

  -- the last of a list, the last of them first
  last_turned : (m : ℕ) (l : List X) → reverse (take m (reverse l)) ≡ drop (length l - m) l
  last_turned m l =
      let back : List X = drop (length l - m) l in
      let turned : reverse l ≡ reverse back ++ reverse (take (length l - m) l) = rw (← reverse-append, take-append-drop) refl in
      grind (arith, turned, cases_lt (length l) m, take_all m (reverse l), length-reverse l, reverse-reverse l, take_at (reverse back) (reverse (take (length l - m) l)) m, length-reverse back, length-drop (length l - m) l, reverse-reverse back)

  -- what one call passes and what it leaves make up the list
  step_passes : (old : List X) (taken : Option X) (fronts backs new : List X) → Step old taken fronts backs new → fronts ++ (new ++ reverse backs) ≡ old
  step_passes old None _ _ new (next _ _ _ h) = append-nil new ∙ h.1 ∙ sym h.0
  step_passes old (Some x) _ _ new (next _ _ _ h) = rw (append-nil, h) refl
  step_passes old None _ _ new (next_back _ _ _ h) = append-nil new ∙ h.1 ∙ sym h.0
  step_passes old (Some x) _ _ new (next_back _ _ _ h) = sym h
  step_passes old taken _ _ new (nth n _ _ _ h) = rw (append-nil, h.left, passes_next n old taken h.given) (take-append-drop (n + 1) old)
  step_passes old taken _ _ new (nth_back n _ _ _ h) =
      rw (passes_next n (reverse old) taken h.given, last_turned (n + 1) old, h.left) (take-append-drop (length old - (n + 1)) old)

  pub passes_each_once : PassesEachOnce X
  passes_each_once old [] [] new (no_call _) = append-nil old
  passes_each_once old _ _ new (call _ between _ fronts backs more_fronts more_backs taken step rest) =
      let last : fronts ++ (between ++ reverse backs) ≡ old = step_passes old taken fronts backs between step in
      let others : more_fronts ++ (new ++ reverse more_backs) ≡ between = passes_each_once between more_fronts more_backs new rest in
      rw (reverse-append backs more_backs, ← last, ← others) (simp append_assoc)

  pub stays_ended : StaysEnded X
  stays_ended taken _ _ new (next _ _ _ h) = let is = takes_first [] taken new h in (is.given, is.left)
  stays_ended taken _ _ new (next_back _ _ _ h) = let is = takes_last [] taken new h in (is.given, is.left)
  stays_ended taken _ _ new (nth n _ _ _ h) = (h.given, h.left ∙ drop_all (n + 1) [] (omega arith))
  stays_ended taken _ _ new (nth_back n _ _ _ h) = (h.given, h.left ∙ take_all (0 - (n + 1)) [] (omega arith))

-- ---- items that are the bits of a list, as numbers
pub length-bits : (bits : List Bool) → length (map bit_value bits) ≡ length bits
length-bits bits = length-map bits bit_value

pub bit_item : (bits : List Bool) (p : ℕ) (x : ℕ) → p < length (map bit_value bits) → x ≡ bit_value (get_or bits p false) → slice_get (map bit_value bits) p ≡ Some x
bit_item bits p x h is = rw (slice_get-map, slice_get-get_or bits p false (omega (arith, length-bits bits)), is) refl

-- ---- items that are the limbs of a list
pub limb_item : (bits : List Bool) (k x : ℕ) → k < length (limbs bits) → x ≡ limb bits k → slice_get (limbs bits) k ≡ Some x
limb_item bits k x h is = slice_get-get_or (limbs bits) k 0 h ∙ ap Some (get_or-limbs bits k (omega (arith, length-limbs bits)) ∙ sym is)

-- makers, lengths and the last item
pub ruleset lists = (all_items, length-items_in, last_is)

-- the items of the sources
pub ruleset items = (length-bits, bit_item, length-limbs, limb_item)

-- `next` and `next_back`
pub ruleset ends = (yields_first, yields_last, goes_first, goes_last)
