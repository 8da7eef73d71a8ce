-- Lists whose items are changed one by one.
use Rattle.vers_wavelet.proofs.Names.{rules, ◌≡◌, ℕ, suc, ◌+◌, List, [], ◌∷◌, refl, ap, ◌∙◌, arith, map, All, Reads, AddsAtMost, times, adds_then, Become}

-- one change after another
pub become_then : {Q : Type 0} {R S T : Q → Q → Type 0} {xs ys zs : List Q} → Become R xs ys → Become S ys zs → ((x y z : Q) → R x y → S y z → T x z) → Become T xs zs
become_then first second both = record {
  long = second.long ∙ first.long;
  each = λ p d h. both _ _ _ (first.each p d h) (second.each p d (omega (arith, h, first.long)));
}

-- what is true of each item that was changed
pub become_all : {Q : Type 0} {R : Q → Q → Type 0} {P : Q → Type 0} {xs ys : List Q} → Become R xs ys → ((x y : Q) → R x y → P y) → All P ys
become_all change each = λ p d h. each _ _ (change.each p d (omega (arith, h, change.long)))

-- what is read off the new items, from the old ones
pub become_map : {Q B : Type 0} {R : Q → Q → Type 0} (f g : Q → B) (xs ys : List Q) → Become R xs ys → ((x y : Q) → R x y → f y ≡ g x) → map f ys ≡ map g xs
become_map f g [] [] change same = refl
become_map f g [] (y ∷ ys) change same = absurd (omega (arith, change.long))
become_map f g (x ∷ xs) [] change same = absurd (omega (arith, change.long))
become_map {Q} {B} {R} f g (x ∷ xs) (y ∷ ys) change same =
    let first : f y ≡ g x = same x y (change.each 0 x (omega arith)) in
    let others : map f ys ≡ map g xs = become_map f g xs ys (record { long = omega (arith, change.long); each = λ p d h. change.each (suc p) d (omega arith) }) same in
    ap (λ b. b ∷ map f ys) first ∙ ap (λ bs. g x ∷ bs) others

-- the same change by what follows from the relation
pub become_weaker : {Q : Type 0} {R S : Q → Q → Type 0} {xs ys : List Q} → Become R xs ys → ((x y : Q) → R x y → S x y) → Become S xs ys
become_weaker change follows = record { long = change.long; each = λ p d h. follows _ _ (change.each p d h) }

-- by what held of the items before
pub become_with : {Q : Type 0} {P : Q → Type 0} {R S : Q → Q → Type 0} {xs ys : List Q} → All P xs → Become R xs ys → ((x y : Q) → P x → R x y → S x y) → Become S xs ys
become_with held change follows = record { long = change.long; each = λ p d h. follows _ _ (held p d h) (change.each p d h) }

-- ---- reads

pub adds_once_more : {a b c r : Reads} (k : ℕ) → AddsAtMost a b (times k r) → AddsAtMost b c r → AddsAtMost a c (times (k + 1) r)
adds_once_more k before more = adds_then before more (search rules)
