-- Counts of joined patterns, one after another.
use Rattle.std.proofs.Common.{◌≡◌, ◌∙◌, ℕ, zero, suc, List, ◌+◌, ◌-◌, ◌<◌, ◌≤◌, ◌++◌, ◌∷◌, length, ap, sym, refl, inl, inr, get_or, map, set, take, drop, arith, slice_index, slice_range}
use Rattle.vers_c.specs.Texts.{AreCountsIn, AreEnds, occurrences, pattern_at}
use Rattle.std.proofs.lemmas.List.{get_or-take, get_or-drop, get_or-set_other, get_or-set_same, get_or-append_right, get_or_append_left, map-set, length-append, length-drop, length-map, length-take-le}
use Rattle.std.proofs.lemmas.Slice.{take-put_mid_below, drop-put_mid}
use Rattle.std.proofs.lemmas.Bool.{cases_lt}
use native.Mathlib.Numerals.{unary_clauses}
use borrow.Rule.Slice.PartMut.{put_mid}

-- one element more is what is wanted
pub one_more : {X Y : Type 0} (f : X → Y) (xs : List X) (want : ℕ → Y) (d : Y) (k : ℕ) (x : X) → k < length xs → ((j : ℕ) → j < k → get_or (map f xs) j d ≡ want j)
    → f x ≡ want k → (j : ℕ) → j < k + 1 → get_or (map f (set xs k x)) j d ≡ want j
one_more f xs want d k x inside each is j below = rw (map-set f xs k x) (elim (cases_lt j k) [
  | inl earlier ↦ get_or-set_other (map f xs) k j (f x) d (λ same. omega (arith, same, earlier)) ∙ each j earlier
  | inr here ↦ let same : j ≡ k = omega (arith, below, here) in rw same (get_or-set_same (map f xs) k (f x) d (omega (arith, inside, length-map xs f)) ∙ is)
])

-- the next pattern begins where one ends
pub start_more : (start : ℕ) (ends : List ℕ) (k : ℕ) → slice_index (start ∷ ends) (k + 1) ≡ slice_index ends k
start_more start ends k = simp unary_clauses refl

-- a list with a part that was written, by position: before the part, in it, and after it
pub put_before : {X : Type 0} (a k : ℕ) (xs ys : List X) (j : ℕ) (d : X) → j < a → a ≤ length xs → get_or (put_mid a k xs ys) j d ≡ get_or xs j d
put_before a k xs ys j d below fits =
    sym (get_or-take a (put_mid a k xs ys) j d below) ∙ ap (λ l. get_or l j d) (take-put_mid_below a k xs ys a (omega arith) fits) ∙ get_or-take a xs j d below

pub put_inside : {X : Type 0} (a k : ℕ) (xs ys : List X) (j : ℕ) (d : X) → j < k → a + k ≤ length xs → length ys ≡ k → get_or (put_mid a k xs ys) (a + j) d ≡ get_or ys j d
put_inside a k xs ys j d inside fits long =
    let head : length (take a xs) ≡ a = length-take-le a xs (omega (arith, fits)) in
    let at : a + j - a ≡ j = omega arith in
    get_or-append_right (take a xs) (ys ++ drop k (drop a xs)) a (a + j) d head (omega arith) ∙ ap (λ i. get_or (ys ++ drop k (drop a xs)) i d) at
    ∙ get_or_append_left ys (drop k (drop a xs)) d j (omega (arith, inside, long))

pub put_length : {X : Type 0} (a k : ℕ) (xs ys : List X) → a + k ≤ length xs → length ys ≡ k → length (put_mid a k xs ys) ≡ length xs
put_length a k xs ys fits long =
    omega (arith, fits, long, length-append (take a xs) (ys ++ drop k (drop a xs)), length-append ys (drop k (drop a xs)), length-take-le a xs (omega (arith, fits)), length-drop k (drop a xs), length-drop a xs)

pub put_behind : {X : Type 0} (a k : ℕ) (xs ys : List X) (j : ℕ) (d : X) → a + k ≤ j → a ≤ length xs → length ys ≡ k → get_or (put_mid a k xs ys) j d ≡ get_or xs j d
put_behind a k xs ys j d behind fits long =
    let at : j ≡ a + k + (j - (a + k)) = omega (arith, behind) in
    rw at (sym (get_or-drop (a + k) (put_mid a k xs ys) (j - (a + k)) d) ∙ ap (λ l. get_or l (j - (a + k)) d) (drop-put_mid a k xs ys (a + k) (omega arith) fits long) ∙ get_or-drop (a + k) xs (j - (a + k)) d)

-- the ends of a group are those from its first pattern on
group_end : (old ends : List ℕ) (first n : ℕ) → ((k : ℕ) → first ≤ k → slice_index ends k ≡ slice_index old k) → (j : ℕ) → j < n
    → slice_index (take n (drop first ends)) j ≡ slice_index old (first + j)
group_end old ends first n left j inside = get_or-take n (drop first ends) j 0 inside ∙ get_or-drop first ends j 0 ∙ left (first + j) (omega arith)

-- and each begins where the one before ends
group_start : (old ends : List ℕ) (first n start : ℕ) → start ≡ slice_index (0 ∷ old) first → ((k : ℕ) → first ≤ k → slice_index ends k ≡ slice_index old k) → (j : ℕ) → j < n
    → slice_index (start ∷ take n (drop first ends)) j ≡ slice_index (0 ∷ old) (first + j)
group_start old ends first n start is left zero inside = let same : first + 0 ≡ first = omega arith in is ∙ ap (slice_index (0 ∷ old)) (sym same)
group_start old ends first n start is left (suc j) inside =
    let same : first + suc j ≡ first + j + 1 = omega arith in
    group_end old ends first n left j (omega (arith, inside)) ∙ sym (start_more 0 old (first + j)) ∙ ap (slice_index (0 ∷ old)) (sym same)

-- what is so after the groups before one pattern
pub record Groups (text : List ℕ) (symbols old ends : List ℕ) (first start : ℕ) : Type 0 where
  pub within : first ≤ length old
  pub long : length ends ≡ length old
  pub begins : start ≡ slice_index (0 ∷ old) first
  pub done : (k : ℕ) → k < first → slice_index ends k ≡ occurrences text (pattern_at symbols 0 old k)
  pub left : (k : ℕ) → first ≤ k → slice_index ends k ≡ slice_index old k

-- it is so after one group more
pub group_more : (text : List ℕ) (symbols old ends group : List ℕ) (first n m start : ℕ) → m ≡ n → 0 < n → first + n ≤ length ends → Groups text symbols old ends first start
    → AreCountsIn text symbols start (take m (drop first ends)) group
    → Groups text symbols old (put_mid first m ends group) (first + n) (slice_index (take m (drop first ends)) (n - 1))
group_more text symbols old ends group first n m start size some fits before counts =
    let all : n ≤ length (drop first ends) = omega (arith, fits, length-drop first ends) in
    let many : length group ≡ m = omega (arith, size, counts.long, length-take-le m (drop first ends) (omega (arith, size, all))) in
    record {
      within = omega (arith, fits, before.long);
      long = put_length first m ends group (omega (arith, size, fits)) many ∙ before.long;
      begins =
          let same : first + n ≡ first + (n - 1) + 1 = omega (arith, some) in
          group_end old ends first m before.left (n - 1) (omega (arith, size, some)) ∙ sym (start_more 0 old (first + (n - 1))) ∙ ap (slice_index (0 ∷ old)) (sym same);
      done = λ k below. elim (cases_lt k first) [
        | inl earlier ↦ put_before first m ends group k 0 earlier (omega (arith, fits)) ∙ before.done k earlier
        | inr inside ↦
            let j = k - first in
            let at : k ≡ first + j = omega (arith, inside) in
            let here : j < m = omega (arith, size, below, inside) in
            rw at (put_inside first m ends group j 0 here (omega (arith, size, fits)) many ∙ counts.each j (omega (arith, here, many, counts.long))
            ∙ ap (λ from. occurrences text (slice_range symbols from (slice_index (take m (drop first ends)) j))) (group_start old ends first m start before.begins before.left j here)
            ∙ ap (λ to. occurrences text (slice_range symbols (slice_index (0 ∷ old) (first + j)) to)) (group_end old ends first m before.left j here))
      ];
      left = λ k above. put_behind first m ends group k 0 (omega (arith, size, above)) (omega (arith, fits)) many ∙ before.left k (omega (arith, above));
    }

-- the ends of a group are ends
pub group_ends : {text : List ℕ} {symbols old ends : List ℕ} {first start : ℕ} (len n m : ℕ) → m ≡ n → first + n ≤ length ends → Groups text symbols old ends first start
    → AreEnds len 0 old → AreEnds len start (take m (drop first ends))
group_ends {text} {symbols} {old} {ends} {first} {start} len n m size fits before are k inside =
    let small : k < m = omega (arith, inside, size, fits, length-take-le m (drop first ends) (omega (arith, size, fits, length-drop first ends))) in
    rw (group_start old ends first m start before.begins before.left k small, group_end old ends first m before.left k small) (are (first + k) (omega (arith, small, size, fits, before.long)))
