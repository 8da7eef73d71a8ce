-- The steps of iterators from both ends whose items take memory.
use Rattle.vers_tally.proofs.Names.{◌≡◌, ℕ, ◌+◌, ◌-◌, ◌<◌, ◌≤◌, true≢false, List, [], ◌∷◌, Option, Some, None, Result, Ok, Err, length, min, refl, sym, ◌∙◌, ap, subst, arith, slice_get, reverse, take, inl, inr, suc, zero, IfOk, IsSome, last_or, cases_lt, length-drop, length-take, length-reverse, slice_get_past, all_items, gave, gave_back, ended, ended_back, length-items_in, last_is, MakesNth, MakesNthBack, MayRefuse}
use Rattle.std.specs.Iterator.{MakesProgress, item_count}
use Rattle.vers_bits.specs.declared.walk.Span.{Span}
use Rattle.vers_bits.specs.Walk.{TakesNth, TakesNthBack, items_in}

-- the item at a position
item_there : {X : Type 0} (xs : List X) (p : ℕ) → p < length xs → (x : X) × (slice_get xs p ≡ Some x)
item_there (x ∷ xs) zero h = (x, refl)
item_there (x ∷ xs) (suc p) h = item_there xs p (omega arith)
item_there [] p h = absurd (omega arith)

module _ {X E : Type 0} where
  may : (r : Result X E) (x : X) {due : Option X} → due ≡ Some x → IfOk r (λ y. Some x ≡ Some y) → MayRefuse (Some r) due
  may (Ok y) x d h = d ∙ h
  may (Err e) x d h = rw d refl

  pub made_none : (n : ℕ) (xs : List X) (s t : Span) {old : List X} {r : Option (Result X E)} → items_in xs s ≡ old → (s.to ≤ s.from + n) × (t.from ≡ s.to) × (t.to ≡ s.to)
      → r ≡ None → MakesNth n old r (items_in xs t)
  made_none n xs s t view none is =
      let h : TakesNth n _ None (items_in xs t) = ended n xs s t view none refl in
      rw is (record { given = sym h.given; left = h.left })

  pub made : (n : ℕ) (xs : List X) (s t : Span) {old : List X} {p : ℕ} {r : Result X E} → items_in xs s ≡ old → s.to ≤ length xs
      → (p ≡ s.from + n) × (p < s.to) × (t.from ≡ p + 1) × (t.to ≡ s.to) → IfOk r (λ x. slice_get xs p ≡ Some x) → MakesNth n old (Some r) (items_in xs t)
  made n xs s t {p = p} {r = r} view within some is =
      let there = item_there xs p (omega (arith, some.1)) in
      let h = gave n xs s t view within some there.1 in
      record { given = may r there.0 (sym h.given) (rw (sym there.1) is); left = h.left }

  pub made_back_none : (n : ℕ) (xs : List X) (s t : Span) {old : List X} {r : Option (Result X E)} → items_in xs s ≡ old → (s.to ≤ s.from + n) × (t.from ≡ s.to) × (t.to ≡ s.to)
      → r ≡ None → MakesNthBack n old r (items_in xs t)
  made_back_none n xs s t view none is =
      let h : TakesNthBack n _ None (items_in xs t) = ended_back n xs s t view none refl in
      rw is (record { given = sym h.given; left = h.left })

  pub made_back : (n : ℕ) (xs : List X) (s t : Span) {old : List X} {p : ℕ} {r : Result X E} → items_in xs s ≡ old → s.to ≤ length xs
      → (p + n + 1 ≡ s.to) × (s.from ≤ p) × (t.from ≡ s.from) × (t.to ≡ p) → IfOk r (λ x. slice_get xs p ≡ Some x) → MakesNthBack n old (Some r) (items_in xs t)
  made_back n xs s t {p = p} {r = r} view within some is =
      let there = item_there xs p (omega (arith, some.0)) in
      let h = gave_back n xs s t view within some there.1 in
      record { given = may r there.0 (sym h.given) (rw (sym there.1) is); left = h.left }

  -- none was due of no items
  none_made : (r : Option (Result X E)) {due : Option X} → due ≡ None → MayRefuse r due → r ≡ None
  none_made None d h = refl
  none_made (Some (Ok x)) d h = cc (d, h)
  none_made (Some (Err e)) d h = absurd (true≢false (sym (subst (λ (o : Option X). IsSome o) d h)))

  -- a step that made an item, or was refused one, leaves fewer
  goes_on : (can : List X → Type 0) (old : List X) (r : Option (Result X E)) (new : List X) → can new → (length old ≡ 0 → r ≡ None) → length new ≡ length old - 1 → MakesProgress can (item_count (λ s. s)) old r new
  goes_on can old None new may ended fewer = record { on = λ _. tt; keeps = tt; rests = λ _. tt }
  goes_on can old (Some x) new may ended fewer =
      let some : 0 < length old = elim (cases_lt 0 (length old)) [ inl h ↦ h | inr h ↦ (let none : Some x ≡ None = ended (omega arith) in cc) ] in
      record { on = λ _. (may, tt, omega arith); keeps = may; rests = λ _. tt }

  pub goes_made : (can : List X → Type 0) (old : List X) (r : Option (Result X E)) (new : List X) → can new → MakesNth 0 old r new → MakesProgress can (item_count (λ s. s)) old r new
  goes_made can old r new may h = grind (arith, goes_on, none_made, slice_get_past, length-drop)

  pub goes_made_back : (can : List X → Type 0) (old : List X) (r : Option (Result X E)) (new : List X) → can new → MakesNthBack 0 old r new → MakesProgress can (item_count (λ s. s)) old r new
  goes_made_back can old r new may h = grind (arith, goes_on, none_made, slice_get_past, length-reverse, length-take)

  -- the last item
  pub last_made : (old : List X) (r : Option (Result X E)) (new : List X) → MakesNthBack 0 old r new → MayRefuse r (last_or None old)
  last_made old r new h = subst (λ due. MayRefuse r due) (last_is old (slice_get (reverse old) 0) (take (length old - 1) old) (record { given = refl; left = refl })) h.given

pub ruleset steps = (all_items, length-items_in, last_made)

pub ruleset ends = (goes_made, goes_made_back)
