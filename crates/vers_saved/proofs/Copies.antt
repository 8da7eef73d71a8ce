-- Words that are copied one after another.
use Rattle.vers_saved.proofs.Names.{◌≡◌, ℕ, ◌+◌, ◌-◌, ◌<◌, ◌≤◌, List, ◌++◌, length, get_or, take, drop, Option, Some, None, sym, ap, ◌∙◌, inl, inr, arith, slice_get, unwrap_or, cases_lt, same_lists, length-take, length-drop, get_or-take, get_or-drop, get_or_append_left, get_or-append_right, drop-drop, slice_get-get_or, slice_get_past, places}
use Rattle.std.proofs.Common.{set}
use Rattle.std.proofs.lemmas.List.{get_or-set_other, get_or-set_same}

-- n words, each of which is that at its position
pub copied : (words out : List ℕ) (from n : ℕ) → length out ≡ n → from + n ≤ length words → ((j : ℕ) → j < n → get_or out j 0 ≡ get_or words (from + j) 0)
    → out ≡ take n (drop from words)
copied words out from n long few each =
    same_lists out (take n (drop from words)) (omega (arith, long, length-take n (drop from words), length-drop from words)) (λ k d small.
    let here : get_or out k 0 ≡ get_or (take n (drop from words)) k 0 =
    each k (omega (arith, long)) ∙ sym (get_or-take n (drop from words) k 0 (omega (arith, long)) ∙ get_or-drop from words k 0) in
    grind (arith, places))

-- one word more is copied
pub one_more : (words out : List ℕ) (from k x : ℕ) → k < length out → ((j : ℕ) → j < k → get_or out j 0 ≡ get_or words (from + j) 0) → x ≡ get_or words (from + k) 0
    → (j : ℕ) → j < k + 1 → get_or (set out k x) j 0 ≡ get_or words (from + j) 0
one_more words out from k x inside each is j h = elim (cases_lt j k) [
  | inl earlier ↦ get_or-set_other out k j x 0 (λ same. omega (arith, same, earlier)) ∙ each j earlier
  | inr here ↦ let same : j ≡ k = omega (arith, h, here) in rw same (get_or-set_same out k x 0 inside ∙ is)
]

-- a walk along xs that has reached position p of xs and ys gives the word there, or if it gives none, it is one of ys
pub both_word : (xs ys : List ℕ) {left : List ℕ} (p : ℕ) {n x : ℕ} {given : Option ℕ} → left ≡ drop p xs → n ≡ length xs → given ≡ slice_get left 0 → x ≡ unwrap_or given (get_or ys (p - n) 0)
    → x ≡ get_or (xs ++ ys) p 0
both_word xs ys {left} p {n} is is_count is_given is_word =
    let long : length left ≡ length xs - p = ap length is ∙ length-drop p xs in
    elim (cases_lt p (length xs)) [
      | inl inside ↦
          let there : p + 0 ≡ p = omega arith in
          is_word ∙ ap (λ g. unwrap_or g (get_or ys (p - n) 0)) (is_given ∙ slice_get-get_or left 0 0 (omega (arith, long)))
          ∙ ap (λ l. get_or l 0 0) is ∙ get_or-drop p xs 0 0 ∙ ap (λ q. get_or xs q 0) there ∙ sym (get_or_append_left xs ys 0 p inside)
      | inr past ↦
          is_word ∙ ap (λ g. unwrap_or g (get_or ys (p - n) 0)) (is_given ∙ slice_get_past left 0 (omega (arith, long)))
          ∙ sym (get_or-append_right xs ys n p 0 (sym is_count) (omega arith))
    ]

-- where it gives none, it has come past xs
pub both_past : (xs : List ℕ) {left : List ℕ} (p : ℕ) {given : Option ℕ} → left ≡ drop p xs → given ≡ slice_get left 0 → given ≡ None → length xs ≤ p
both_past xs {left} p {given} is is_given none = elim (cases_lt p (length xs)) [
  | inl inside ↦
      let some : given ≡ Some (get_or left 0 0) = is_given ∙ slice_get-get_or left 0 0 (omega (arith, ap length is, length-drop p xs)) in cc
  | inr past ↦ past
]

pub walked_on : (words : List ℕ) {left : List ℕ} (from k : ℕ) → left ≡ drop (from + k) words → drop (0 + 1) left ≡ drop (from + (k + 1)) words
walked_on words from k is = let there : from + k + 1 ≡ from + (k + 1) = omega arith in ap (drop 1) is ∙ drop-drop 1 (from + k) words ∙ ap (λ p. drop p words) there
