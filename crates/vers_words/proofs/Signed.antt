-- Signed numbers.
use Rattle.vers_words.proofs.Imports.{◌≡◌, ◌==◌, ◌^◌, ◌<◌, ℕ, ℤ, pos, neg_ℤ, negsuc, zero, suc, true, false, List, ◌∷◌, Option, Some, None, sym, ap, ◌∙◌, refl, inl, inr, arith, FitsSigned, option_and_then, ints, cases_lt, lt-ltb, le-ltb, le-leb, lt-leb, eqb_tells, number_of, with_sign, signed_number_of}
use Rattle.std.specs.Int.{w64}
use Rattle.std.specs.Option.{SomeIff}

-- what a checked sum and a checked difference with 0 answer
pub plus_from : (n : ℕ) (z : ℤ) (r : Option ℤ) → z ≡ pos n → SomeIff r (FitsSigned w64 z) z → r ≡ with_sign false n
plus_from n z None e h = elim (cases_lt n (2 ^ 63)) [
  | inl less ↦ absurd (h (rw e (record { sfits = less })))
  | inr more ↦ rw (le-ltb n (2 ^ 63) more) refl
]
plus_from n z (Some x) e h =
    let fits : FitsSigned w64 (pos n) = rw e at h.0 in
    let less : n < 2 ^ 63 = fits.sfits in
    rw (lt-ltb n (2 ^ 63) less) (ap Some (h.1 ∙ e))

pub minus_from : (n : ℕ) (z : ℤ) (r : Option ℤ) → z ≡ neg_ℤ (pos n) → SomeIff r (FitsSigned w64 z) z → r ≡ with_sign true n
minus_from zero z None e h = absurd (h (rw e (record { sfits = omega arith })))
minus_from zero z (Some x) e h = ap Some (h.1 ∙ e)
minus_from (suc n) z None e h = elim (cases_lt n (2 ^ 63)) [
  | inl less ↦ absurd (h (rw e (record { sfits = less })))
  | inr more ↦ rw (lt-leb (suc n) (2 ^ 63) (omega arith)) refl
]
minus_from (suc n) z (Some x) e h =
    let fits : FitsSigned w64 (negsuc n) = rw e at h.0 in
    let less : n < 2 ^ 63 = fits.sfits in
    rw (le-leb (suc n) (2 ^ 63) (omega (arith, less))) (ap Some (h.1 ∙ e))

pub signed-other : (byte : ℕ) (bytes : List ℕ) → (byte == 45) ≡ false → signed_number_of (byte ∷ bytes) ≡ option_and_then (with_sign false) (number_of (byte ∷ bytes))
unfolding signed_number_of
signed-other byte bytes h = rw h refl

-- the two from the parts of a word
pub signed_of-minus : (word bytes : List ℕ) (first : ℕ) (n : Option ℕ) → word ≡ first ∷ bytes → first ≡ 45 → n ≡ number_of bytes → option_and_then (with_sign true) n ≡ signed_number_of word
unfolding signed_number_of
signed_of-minus word bytes first n w m e = rw (w, m, e) refl

pub signed_of-other : (word bytes : List ℕ) (first : ℕ) (n : Option ℕ) → word ≡ first ∷ bytes → (first ≡ 45 → ⊥) → n ≡ number_of word → option_and_then (with_sign false) n ≡ signed_number_of word
signed_of-other word bytes first n w m e = rw (e, w) (sym (signed-other first bytes (grind (arith, ints, eqb_tells))))
