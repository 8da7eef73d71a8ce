-- The shorter list looked through from its start.
use Rattle.vers_sorted.specs.Sorted.{is_element}
use Rattle.postings.proofs.Names.{◌≡◌, ℕ, zero, suc, ◌+◌, ◌*◌, ◌<◌, ◌≤◌, Bool, true, false, cond, List, [], ◌∷◌, ◌++◌, length, take, drop, get_or, Some, None, refl, sym, ap, subst, ◌∙◌, arith, rules, slice_get, if◌then◌else◌, get_or-drop, length-drop, slice_get-get_or, get_or_from_slice_get, none-some, Reads, AddsAtMost, IsWithin, plus, times, common, lookups}
use Rattle.vers_bits.specs.Walk.{TakesFirst}
use Rattle.std.proofs.Math.Nat.{mul-le-mul_right}
use Rattle.std.proofs.lemmas.List.Elements.{filter_more}
use Rattle.vers_sorted.specs.Layout.{element_reads, search_reads}
use Rattle.vers_tally.specs.Ends.{Walking}
use Rattle.vers_tally.proofs.PublicLaws.{adds_then, adds_weaker, within_itself}

-- a walk along the shorter list took k documents and has the others left, and of those taken the ones that the longer list has were found
pub record SharedUpTo (shorter longer found : List ℕ) (walk : Walking ℕ) (old new : Reads) (k : ℕ) : Type 0 where
  pub found_so_far : found ≡ common (take k shorter) longer
  pub to_come : walk.left ≡ drop k shorter
  pub step : walk.step ≡ element_reads shorter
  pub adds : AddsAtMost old new (times k (plus (element_reads shorter) (search_reads longer)))

-- one more document was looked for
pub common_more : (shorter longer : List ℕ) (k d : ℕ) (shares : Bool) → slice_get shorter k ≡ Some d → k < length shorter → shares ≡ is_element longer d
    → common (take (k + 1) shorter) longer ≡ common (take k shorter) longer ++ cond shares (d ∷ []) []
unfolding common
common_more shorter longer k d shares at inside answer =
    rw (filter_more (is_element longer) shorter k 0 inside, get_or_from_slice_get shorter k d 0 at, answer) refl

common_start : (shorter longer : List ℕ) → common (take 0 shorter) longer ≡ []
unfolding common
common_start shorter longer = refl

more_room : (k x y : ℕ) → k * (x + y) + x + y ≤ (k + 1) * (x + y)
more_room k x y = omega arith

-- one more look-up
lookups_more : (k : ℕ) (p q old between next new : Reads) → AddsAtMost old between (times k (plus p q)) → AddsAtMost between next p → AddsAtMost next new q
    → AddsAtMost old new (times (k + 1) (plus p q))
lookups_more k p q a b c d before step look = grind (arith, adds_then, within_itself, more_room)

-- fewer look-ups stay within more
pub lookups_up : (k n : ℕ) (p : Reads) → k ≤ n → IsWithin (times k p) (times n p)
lookups_up k n p few = grind (arith, mul-le-mul_right)

-- what is left of a list after k of its elements and one more
drop_next : (k : ℕ) (xs : List ℕ) → drop 1 (drop k xs) ≡ drop (suc k) xs
drop_next zero xs = refl
drop_next (suc k) [] = refl
drop_next (suc k) (x ∷ xs) = drop_next k xs

-- the first that is left is the next document
next_left : (xs left : List ℕ) (k d : ℕ) → left ≡ drop k xs → k < length xs → Some d ≡ slice_get left 0 → slice_get xs k ≡ Some d
next_left xs left k d rest inside first =
    let at : k + 0 ≡ k = omega arith in
    let there : get_or (drop k xs) 0 0 ≡ d = get_or_from_slice_get (drop k xs) 0 d 0 (sym (subst (λ (l : List ℕ). Some d ≡ slice_get l 0) rest first)) in
    let here : get_or xs k 0 ≡ d = ap (λ j. get_or xs j 0) (sym at) ∙ sym (get_or-drop k xs 0 0) ∙ there in
    slice_get-get_or xs k 0 inside ∙ ap (λ z. Some z) here

-- before the first
pub shared_start : (shorter longer found : List ℕ) (walk : Walking ℕ) (reads : Reads) → found ≡ [] → walk ≡ record { left = shorter; step = element_reads shorter }
    → SharedUpTo shorter longer found walk reads reads 0
shared_start shorter longer found walk reads none start =
    rw (none, start) (record { found_so_far = sym (common_start shorter longer); to_come = refl; step = refl; adds = search rules })

-- after one more
pub shared_more : (shorter longer found more : List ℕ) (walk walked : Walking ℕ) (old between next new : Reads) (k d : ℕ) (shares : Bool)
    → SharedUpTo shorter longer found walk old between k → k < length shorter → TakesFirst walk.left (Some d) walked.left → walked.step ≡ walk.step
    → AddsAtMost between next walk.step → shares ≡ is_element longer d → AddsAtMost next new (search_reads longer) → more ≡ found ++ cond shares (d ∷ []) []
    → SharedUpTo shorter longer more walked old new (k + 1)
shared_more shorter longer found more walk walked a b c e k d shares before inside taken same read answer look grown =
    let next : suc k ≡ k + 1 = omega arith in record {
      found_so_far = grown ∙ ap (λ (l : List ℕ). l ++ cond shares (d ∷ []) []) before.found_so_far
          ∙ sym (common_more shorter longer k d shares (next_left shorter walk.left k d before.to_come inside taken.given) inside answer);
      to_come = taken.left ∙ ap (λ (l : List ℕ). drop 1 l) before.to_come ∙ drop_next k shorter ∙ ap (λ (j : ℕ). drop j shorter) next;
      step = same ∙ before.step;
      adds = lookups_more k (element_reads shorter) (search_reads longer) a b c e before.adds (rw (← before.step) read) look;
    }

-- none is taken past the last alone
pub never_ends : (shorter left : List ℕ) (k : ℕ) → left ≡ drop k shorter → k < length shorter → slice_get left 0 ≡ None → ⊥
never_ends shorter left k rest inside none =
    let some : 0 < length (drop k shorter) = omega (arith, length-drop k shorter, inside) in
    absurd_some (get_or (drop k shorter) 0 0) (sym (slice_get-get_or (drop k shorter) 0 0 some) ∙ subst (λ (l : List ℕ). slice_get l 0 ≡ None) rest none)
  where
    absurd_some : (d : ℕ) → Some d ≡ None → ⊥
    absurd_some d e = none-some d (sym e)

-- a stop after a look-up
pub stopped_within : (shorter longer found : List ℕ) (walk : Walking ℕ) (old between next new : Reads) (k : ℕ) → SharedUpTo shorter longer found walk old between k → k < length shorter
    → AddsAtMost between next walk.step → AddsAtMost next new (search_reads longer) → AddsAtMost old new (lookups shorter longer)
stopped_within shorter longer found walk a b c e k before inside read look =
    adds_weaker (lookups_more k (element_reads shorter) (search_reads longer) a b c e before.adds (rw (← before.step) read) look)
    (lookups_up (k + 1) (length shorter) (plus (element_reads shorter) (search_reads longer)) (omega (arith, inside)))

-- a stop after all of them
pub ended_within : (shorter longer found : List ℕ) (walk : Walking ℕ) (old new : Reads) (k : ℕ) → SharedUpTo shorter longer found walk old new k → k ≤ length shorter
    → AddsAtMost old new (lookups shorter longer)
ended_within shorter longer found walk a b k before inside =
    adds_weaker before.adds (lookups_up k (length shorter) (plus (element_reads shorter) (search_reads longer)) inside)

-- a question of two lists, the first of them asked about first where `b` holds
pub either_first : {Y : Type 0} (f : List ℕ → List ℕ → Y) (b : Bool) (documents others first second : List ℕ) → first ≡ (if b then documents else others) → second ≡ (if b then others else documents)
    → f first second ≡ (if b then f documents others else f others documents)
either_first f true documents others first second e h = rw (e, h) refl
either_first f false documents others first second e h = rw (e, h) refl

pub same_either_way : {Y : Type 0} (b : Bool) (x y : Y) → x ≡ y → (if b then x else y) ≡ x
same_either_way true x y e = refl
same_either_way false x y e = sym e
