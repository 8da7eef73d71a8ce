-- Masks by or, and and xor are the bits combined one by one.
use Rattle.vers_bits.proofs.Names.{◌≡◌, ℕ, zero, suc, ◌+◌, ◌%◌, ◌<◌, min, max, Bool, true, false, ◌||◌, ◌&&◌, eqb, List, [], ◌∷◌, length, get_or, refl, arith, bit_at, bit_or, bit_and, bit_xor, bit_at_or, bit_at_and, bit_at_xor, ext_get_or, masked, zip_bits, xor, cases_Bool}
use Rattle.vers_bits.proofs.Equal.{bit_at-limb}
use Rattle.vers_bits.proofs.Masks.{length-masked, get_or-masked}

length-zip_bits : (f : Bool → Bool → Bool) (xs ys : List Bool) → length xs ≡ length ys → length (zip_bits f xs ys) ≡ length xs
length-zip_bits f [] ys e = refl
length-zip_bits f (x ∷ xs) ys e = grind (arith, length-zip_bits f xs)

pub get_or-zip_bits : (f : Bool → Bool → Bool) (xs ys : List Bool) (i : ℕ) → length xs ≡ length ys → i < length xs → get_or (zip_bits f xs ys) i false ≡ f (get_or xs i false) (get_or ys i false)
get_or-zip_bits f [] ys i e h = absurd (omega arith)
get_or-zip_bits f (x ∷ xs) [] i e h = absurd (omega arith)
get_or-zip_bits f (x ∷ xs) (y ∷ ys) zero e h = refl
get_or-zip_bits f (x ∷ xs) (y ∷ ys) (suc i) e h = get_or-zip_bits f xs ys i (omega arith) (omega arith)

-- the same as a combination of bits, for each of the four pairs
abbrev Combines : (ℕ → ℕ → ℕ) → (Bool → Bool → Bool) → Type 0
Combines d f = (eqb (d 1 1) 1 ≡ f true true) × (eqb (d 1 0) 1 ≡ f true false) × (eqb (d 0 1) 1 ≡ f false true) × (eqb (d 0 0) 1 ≡ f false false)

-- a mask whose answer has each digit from both digits there combines the bits one by one
masked_by_bits : (g : ℕ → ℕ → ℕ) (d : ℕ → ℕ → ℕ) (f : Bool → Bool → Bool) → ((a b i : ℕ) → bit_at (g a b) i ≡ d (bit_at a i) (bit_at b i)) → Combines d f → (xs ys : List Bool) → length xs ≡ length ys → masked g xs ys ≡ zip_bits f xs ys
masked_by_bits g d f digits bits xs ys e =
    ext_get_or false (masked g xs ys) (zip_bits f xs ys) (grind (arith, length-masked, length-zip_bits))
    (λ i h.
    let small : i < length xs = omega (arith, length-masked g xs ys) in
    rw (get_or-masked g xs ys i small, digits, bit_at-limb xs i, bit_at-limb ys i, get_or-zip_bits f xs ys i e small) (grind (arith, bits, cases_Bool (get_or xs i false), cases_Bool (get_or ys i false))))

pub masked-or : (xs ys : List Bool) → length xs ≡ length ys → masked bit_or xs ys ≡ zip_bits (λ x y. x || y) xs ys
masked-or = masked_by_bits bit_or max (λ x y. x || y) bit_at_or (refl, refl, refl, refl)

pub masked-and : (xs ys : List Bool) → length xs ≡ length ys → masked bit_and xs ys ≡ zip_bits (λ x y. x && y) xs ys
masked-and = masked_by_bits bit_and min (λ x y. x && y) bit_at_and (refl, refl, refl, refl)

pub masked-xor : (xs ys : List Bool) → length xs ≡ length ys → masked bit_xor xs ys ≡ zip_bits xor xs ys
masked-xor = masked_by_bits bit_xor (λ a b. (a + b) % 2) xor bit_at_xor (refl, refl, refl, refl)

pub ruleset zips = (masked-or, masked-and, masked-xor)
