-- The bits that digits write.
use Rattle.vers_cli.proofs.Names.{◌≡◌, ◌==◌, ℕ, true, List, [], ◌∷◌, inl, inr, map, refl, list_all, ◌%◌, eqb-true, or_cases, and_parts, is_bit_digit, bits_of_digits}

-- the digits 0 and 1 are even and odd
odd_digit : (b : ℕ) → is_bit_digit b ≡ true → (b % 2 == 1) ≡ (b == 49)
odd_digit b h =
    elim (or_cases (b == 48) (b == 49) h) [
      | inl e ↦ let at : b ≡ 48 = eqb-true b 48 e in rw at refl
      | inr e ↦ let at : b ≡ 49 = eqb-true b 49 e in rw at refl
    ]

pub odd_digits : (digits : List ℕ) → list_all is_bit_digit digits ≡ true → map (λ n. n % 2 == 1) digits ≡ bits_of_digits digits
odd_digits [] h = refl
odd_digits (b ∷ digits) h =
    let p = and_parts (is_bit_digit b) (list_all is_bit_digit digits) h in
    rw (odd_digit b p.0, odd_digits digits p.1) refl
