-- How many elements are below each symbol, from how often each occurs.
use Rattle.wavelet_tree.proofs.Names.{◌≡◌, ℕ, ◌+◌, ◌<◌, ◌≤◌, ltb, eqb, List, [], ◌∷◌, length, take, set, get_or, sym, ap, ◌∙◌, refl, arith, inl, inr, count_by, cases_lt, cases_eq, nat_tests, eq-eqb, ne_eqb, get_or-set_same, get_or-set_other, length-set, count_by-le-length, sum_by_more, length-take, lesser, StartsUpTo}
use Rattle.wavelet_tree.proofs.Lists.{one, count_cons}
use Rattle.wavelet_tree.proofs.Splits.{lesser_none}

pub lesser_next : (xs : List ℕ) (c : ℕ) → lesser xs (c + 1) ≡ lesser xs c + count_by (λ s. eqb s c) xs
lesser_next [] c = refl
lesser_next (x ∷ xs) c =
    omega (arith, count_cons (λ s. ltb s (c + 1)) x xs, count_cons (λ s. ltb s c) x xs, count_cons (λ s. eqb s c) x xs, split x c, lesser_next xs c)
  where
    split : (x c : ℕ) → one (ltb x (c + 1)) ≡ one (ltb x c) + one (eqb x c)
    split x c = grind (arith, nat_tests)

pub lesser_zero : (xs : List ℕ) → lesser xs 0 ≡ 0
lesser_zero xs = lesser_none xs 0 (λ k d inside. omega arith)

pub starts_none : (xs starts : List ℕ) → ((c : ℕ) → c < length starts → get_or starts c 0 ≡ count_by (λ s. eqb s c) xs) → StartsUpTo xs starts 0
starts_none xs starts are = record { done = λ c less narrow. absurd (omega (arith, less)); left = λ c from narrow. are c narrow }

-- the next number, and where the one after it begins
pub starts_more : (xs starts : List ℕ) (number before : ℕ) → number < length starts → before ≡ lesser xs number → StartsUpTo xs starts number
    → StartsUpTo xs (set starts number before) (number + 1) × (before + get_or starts number 0 ≡ lesser xs (number + 1)) × (before + get_or starts number 0 ≤ length xs)
starts_more xs starts number before narrow is upto = (
  record {
    done = λ c less small. elim (cases_lt c number) [
      | inl earlier ↦ get_or-set_other starts number c before 0 (λ same. omega (arith, same, earlier)) ∙ upto.done c earlier (omega (arith, small, length-set starts number before))
      | inr here ↦ let same : c ≡ number = omega (arith, less, here) in rw same (get_or-set_same starts number before 0 narrow ∙ is)
    ];
    left = λ c from small. get_or-set_other starts number c before 0 (λ same. omega (arith, same, from)) ∙ upto.left c (omega (arith, from)) (omega (arith, small, length-set starts number before));
  },
  omega (arith, is, upto.left number (omega arith) narrow, lesser_next xs number),
  omega (arith, is, upto.left number (omega arith) narrow, lesser_next xs number, count_by-le-length (λ s. ltb s (number + 1)) xs),
)

-- one symbol more is counted
pub counted_more : (xs counts : List ℕ) (position symbol : ℕ) → position < length xs → symbol ≡ get_or xs position 0 → symbol < length counts
    → ((c : ℕ) → c < length counts → get_or counts c 0 ≡ count_by (λ s. eqb s c) (take position xs))
    → (c : ℕ) → c < length (set counts symbol (get_or counts symbol 0 + 1)) → get_or (set counts symbol (get_or counts symbol 0 + 1)) c 0 ≡ count_by (λ s. eqb s c) (take (position + 1) xs)
counted_more xs counts position symbol inside is narrow before c within =
    let more = sum_by_more (λ s. one (eqb s c)) xs position 0 inside in
    elim (cases_eq c symbol) [
      | inl same ↦
          rw same (get_or-set_same counts symbol (get_or counts symbol 0 + 1) 0 narrow ∙ omega (arith, before symbol narrow, sum_by_more (λ s. one (eqb s symbol)) xs position 0 inside, ap one (eq-eqb (get_or xs position 0) symbol (sym is))))
      | inr other ↦
          get_or-set_other counts symbol c (get_or counts symbol 0 + 1) 0 other
          ∙ omega (arith, before c (omega (arith, within, length-set counts symbol (get_or counts symbol 0 + 1))), more, ap one (ne_eqb (get_or xs position 0) c (λ same. other (sym same ∙ sym is))))
    ]

-- a symbol occurs at most as often as there are positions before
pub counted_few : (xs : List ℕ) (position c : ℕ) → count_by (λ s. eqb s c) (take position xs) ≤ position
counted_few xs position c = omega (arith, count_by-le-length (λ s. eqb s c) (take position xs), length-take position xs)
