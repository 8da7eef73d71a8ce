-- Lists that are written item by item, and group by group.
use Rattle.vers_c.proofs.Names.{◌+◌, ◌-◌, ◌<◌, ◌≤◌, length, map, take, get_or, set, arith, take-add, append_assoc, drop-drop, drop_at, drop_more, get_or-map, get_or_at, length-map, length-take-le, map-append, map_more, map_push, take_at, take_more_set, map_over_more, put_mid}
use Rattle.std.proofs.Common.{◌≡◌, ℕ, ◌++◌, ◌∙◌, Bool, List, [], ◌∷◌, Option, drop, ap, refl, sym, unwrap_or, get_or-drop}
use Rattle.std.proofs.lemmas.List.{get_or_default}
use Rattle.std.proofs.lemmas.Option.{unwrap_or-slice_get}
use Rattle.vers_bits.specs.Bits.{positions, select}
use Rattle.vers_bits.specs.Walk.{TakesNth}

-- an item that is still as it was, where those before it were written
still : {X : Type 0} (f : X → X) (xs ys : List X) (i : ℕ) (d : X) → i < length xs → ys ≡ map f (take i xs) ++ drop i xs → get_or ys i d ≡ get_or xs i d
still {X} f xs ys i d inside is =
    let front : List X = map f (take i xs) in
    let long : length front ≡ i = length-map (take i xs) f ∙ length-take-le i xs (omega arith) in
    ap (λ l. get_or l i d) (is ∙ ap (λ l. front ++ l) (drop_more xs i d inside)) ∙ get_or_at front (get_or xs i d) (drop (i + 1) xs) d i long

-- items at one position of two lists of which the same is read off
same_at : {Q R A : Type 0} (f : Q → A) (g : R → A) (qs : List Q) (rs : List R) (i : ℕ) (q : Q) (r : R) → i < length qs → i < length rs → q ≡ get_or qs i q → r ≡ get_or rs i r → map f qs ≡ map g rs → f q ≡ g r
same_at f g qs rs i q r in_qs in_rs read_q read_r same =
    ap f read_q ∙ sym (get_or-map f qs i q (f q) in_qs) ∙ ap (λ l. get_or l i (f q)) same ∙ get_or-map g rs i r (f q) in_rs ∙ ap g (sym read_r)

-- one item more of which the same is read off
pub alike_more : {Q R A : Type 0} (f : Q → A) (g : R → A) (qs : List Q) (rs : List R) (i : ℕ) (q : Q) (r : R) → i < length qs → i < length rs → r ≡ get_or rs i r → f q ≡ g r
    → map f (take i qs) ≡ map g (take i rs) → map f (take (i + 1) (set qs i q)) ≡ map g (take (i + 1) rs)
alike_more f g qs rs i q r in_qs in_rs read same before =
    ap (map f) (take_more_set qs i q in_qs) ∙ map_push f (take i qs) q
    ∙ ap (λ l. l ++ f q ∷ []) before ∙ ap (λ a. map g (take i rs) ++ a ∷ []) (same ∙ ap g read) ∙ sym (map_more g rs i r in_rs)

-- one item more that is written by its answer
pub stored_more : {Q R A : Type 0} (says : Q → A) (answer : R → A) (store : R → A → R) (qs : List Q) (xs ys : List R) (i : ℕ) (q : Q) (r : R) → i < length qs → i < length xs
    → q ≡ get_or qs i q → r ≡ get_or ys i r → map says qs ≡ map answer xs → ys ≡ map (λ x. store x (answer x)) (take i xs) ++ drop i xs
    → set ys i (store r (says q)) ≡ map (λ x. store x (answer x)) (take (i + 1) xs) ++ drop (i + 1) xs
stored_more {Q} {R} {A} says answer store qs xs ys i q r in_qs in_xs read_q read_r same is =
    let write : R → R = λ x. store x (answer x) in
    let said : says q ≡ answer r = same_at says answer qs xs i q r in_qs in_xs read_q (read_r ∙ still write xs ys i r in_xs is) same in
    ap (λ a. set ys i (store r a)) said ∙ map_over_more write xs ys i r in_xs is read_r

-- one item more that is written, by the item there before
pub written_more : {X : Type 0} (f : X → X) (xs ys : List X) (i : ℕ) (v d : X) → i < length xs → v ≡ f (get_or xs i d) → ys ≡ map f (take i xs) ++ drop i xs
    → set ys i v ≡ map f (take (i + 1) xs) ++ drop (i + 1) xs
written_more {X} f xs ys i v d inside value is =
    let x : X = get_or xs i d in
    ap (λ y. set ys i y) value ∙ map_over_more f xs ys i x inside is (get_or_default xs i d x inside ∙ sym (still f xs ys i x inside is))

-- one position more of a run
module _ (bit : Bool) (bits : List Bool) (left new : List ℕ) (skip n : ℕ) (taken : Option ℕ) (before : drop skip left ≡ drop n (positions bit bits)) (steps : TakesNth skip left taken new) where
  pub run_goes_on : new ≡ drop (n + 1) (positions bit bits)
  run_goes_on = steps.left ∙ sym (drop-drop 1 skip left) ∙ ap (drop 1) before ∙ drop-drop 1 n (positions bit bits)

  pub run_taken : unwrap_or taken (length bits) ≡ select bit bits n
  unfolding select
  run_taken =
      let d : ℕ = length bits in
      let same : get_or left (skip + 0) d ≡ get_or (positions bit bits) (n + 0) d = sym (get_or-drop skip left 0 d) ∙ ap (λ l. get_or l 0 d) before ∙ get_or-drop n (positions bit bits) 0 d in
      let left_at : skip ≡ skip + 0 = omega arith in
      let position_at : n + 0 ≡ n = omega arith in
      ap (λ o. unwrap_or o d) steps.given ∙ unwrap_or-slice_get left skip d
      ∙ ap (λ i. get_or left i d) left_at ∙ same ∙ ap (λ i. get_or (positions bit bits) i d) position_at

-- a group more
pub group_more : {X : Type 0} (f : X → X) (xs ys zs : List X) (i n : ℕ) → i + n ≤ length xs → ys ≡ map f (take i xs) ++ drop i xs → zs ≡ map f (take n (drop i ys))
    → put_mid i n ys zs ≡ map f (take (i + n) xs) ++ drop (i + n) xs
group_more {X} f xs ys zs i n inside is made =
    let front : List X = map f (take i xs) in
    let long : length front ≡ i = length-map (take i xs) f ∙ length-take-le i xs (omega arith) in
    let before : take i ys ≡ front = ap (take i) is ∙ take_at front (drop i xs) i long in
    let rest : drop i ys ≡ drop i xs = ap (drop i) is ∙ drop_at front (drop i xs) i long in
    let group : zs ≡ map f (take n (drop i xs)) = made ∙ ap (λ l. map f (take n l)) rest in
    let after : drop n (drop i ys) ≡ drop (i + n) xs = ap (drop n) rest ∙ drop-drop n i xs in
    let parts : put_mid i n ys zs ≡ front ++ (map f (take n (drop i xs)) ++ drop (i + n) xs) = rw (before, group, after) refl in
    parts ∙ sym (append_assoc front (map f (take n (drop i xs))) (drop (i + n) xs))
    ∙ ap (λ l. l ++ drop (i + n) xs) (sym (map-append f (take i xs) (take n (drop i xs))) ∙ ap (map f) (sym (take-add i n xs)))
