-- Words compared by lanes.
use Rattle.vers_bits.proofs.Names.{◌≡◌, ℕ, ◌-◌, ◌%◌, ◌^◌, ◌≤◌, Bool, cond, not, List, [], ◌∷◌, length, eqb, map, refl, ap, ap₂, ◌∙◌, arith, w64, Decides, cases_eq, eq-eqb, eqb-true, ne_eqb}
use lib.Lanes.{mask_l, top, zip2}
use Rattle.std.proofs.lemmas.Simd.{tops_compared, mask_l-mod, length-zip2}

abbrev pub is_other : ℕ → ℕ → Bool
is_other x y = not (eqb x y)

-- the lanes that differ, as a mask
abbrev pub other_lanes : List ℕ → List ℕ → ℕ
other_lanes xs ys = mask_l (zip2 is_other xs ys)

same_lanes : (xs ys : List ℕ) → length xs ≡ length ys → other_lanes xs ys ≡ 0 → xs ≡ ys
same_lanes [] [] e h = refl
same_lanes [] (y ∷ ys) e h = absurd (omega (arith, e))
same_lanes (x ∷ xs) [] e h = absurd (omega (arith, e))
same_lanes (x ∷ xs) (y ∷ ys) e h = grind (arith, ap₂, cases_eq, ne_eqb, same_lanes xs ys (omega (arith, e)) (omega (arith, h)))

lanes_of_same : (xs : List ℕ) → other_lanes xs xs ≡ 0
lanes_of_same [] = refl
lanes_of_same (x ∷ xs) = grind (arith, eq-eqb, lanes_of_same xs)

-- lists of one length are the same where no lane differs
pub lanes_decide : (xs ys : List ℕ) → length xs ≡ length ys → Decides (eqb (other_lanes xs ys) 0) (xs ≡ ys)
lanes_decide xs ys e = grind (arith, same_lanes, eqb-true, eq-eqb, lanes_of_same)

-- the mask that a comparison of lanes gives
pub compared : (xs ys : List ℕ) → length xs ≡ length ys → length xs ≤ 64
    → mask_l (map (top 63) (zip2 (λ a b. cond (is_other a b) (2 ^ 64 - 1) 0) xs ys)) % 2 ^ 64 ≡ other_lanes xs ys
compared xs ys e few =
    ap (λ l. mask_l l % 2 ^ 64) (tops_compared w64 is_other xs ys)
    ∙ mask_l-mod (zip2 is_other xs ys) 64 (omega (arith, length-zip2 is_other xs ys e, few))
