-- Elements by size, from one level to the next.
use Rattle.vers_wavelet.proofs.Names.{◌≡◌, ℕ, ◌+◌, ◌-◌, ◌*◌, ◌^◌, ◌&&◌, ◌<◌, ◌≤◌, Bool, false, cond, leb, List, [], ◌∷◌, length, get_or, drop, refl, sym, ap, ◌∙◌, arith, Option, Some, None, option_map, slice_get, slice_range, IfSome, if◌then◌else◌, nat_tests, length-take, slice_get-get_or, slice_get_past, bit_value, values, next, IsKthInRange, HasRoom, kth_symbol, by_size}
use Rattle.vers_wavelet.proofs.BySize.{length-by_size, kth_at, at_kth}
use Rattle.vers_wavelet.proofs.Steps.{kth_step, kth-lt}
use Rattle.vers_wavelet.proofs.Lists.{length-values, length-part, kth_is}
use Rattle.vers_wavelet.proofs.Answering.{if_both}
use Rattle.vers_wavelet.proofs.Elements.{not_lt}

-- ---- the element of a range

kth_element : (ls : List (List Bool)) (a b i : ℕ) → a + i < b → IsKthInRange ls a b i (kth_symbol ls a b i)
unfolding kth_symbol
kth_element ls a b i h =
    (kth_is ls b a b i _ (omega arith) (omega arith)).1
    (at_kth (slice_range (values ls b) a b) i (omega (arith, length-part ls b a b (omega arith) (omega arith))))

item_is : (ls : List (List Bool)) (n a b i x : ℕ) → a + i < b → b ≤ n → IsKthInRange ls a b i x → get_or (by_size (slice_range (values ls n) a b)) i 0 ≡ x
item_is ls n a b i x h within kth =
    kth_at (slice_range (values ls n) a b) i x (omega (arith, length-part ls n a b (omega arith) within))
    ((kth_is ls n a b i x (omega arith) within).0 kth)

kth_symbol-lt : (ls : List (List Bool)) (a b i : ℕ) → a + i < b → kth_symbol ls a b i < 2 ^ length ls
kth_symbol-lt ls a b i h = kth-lt ls a b i (kth_symbol ls a b i) (kth_element ls a b i h) h

kth_goes : (bit : Bool) (v : List Bool) (ls : List (List Bool)) (a b i j : ℕ) → a + i < b → b ≤ length v → next bit v a + j < next bit v b
    → j + cond bit (next false v b - next false v a) 0 ≡ i
    → kth_symbol (v ∷ ls) a b i ≡ bit_value bit * 2 ^ length ls + kth_symbol ls (next bit v a) (next bit v b) j
unfolding kth_symbol
kth_goes bit v ls a b i j h within order left =
    let c : ℕ = next bit v a in
    let d : ℕ = next bit v b in
    item_is (v ∷ ls) b a b i _ h (omega arith)
    (kth_step bit v ls a b i j (kth_symbol ls c d j) (omega arith) within (kth_symbol-lt ls c d j order) left (kth_element ls c d j order))

-- ---- queries

pub quantile_begins : (ls : List (List Bool)) (n a b i : ℕ) → length ls ≤ 64 → b ≤ n → a + i < b
    → Some (0 + kth_symbol ls a b i) ≡ (if leb (length ls) 64 && leb b (length (values ls n)) then slice_get (by_size (slice_range (values ls n) a b)) i else None)
quantile_begins ls n a b i few within h =
    let xs : List ℕ = slice_range (values ls n) a b in
    let e : get_or (by_size xs) i 0 ≡ 0 + kth_symbol ls a b i = item_is ls n a b i (kth_symbol ls a b i) h within (kth_element ls a b i h) ∙ omega arith in
    let at : slice_get (by_size xs) i ≡ Some (0 + kth_symbol ls a b i) =
    slice_get-get_or (by_size xs) i 0 (omega (arith, length-by_size xs, length-part ls n a b (omega arith) within)) ∙ ap Some e in
    sym at ∙ if_both (length ls) 64 b (length (values ls n)) (slice_get (by_size xs) i) few (omega (arith, length-values ls n))

pub quantile_none : (ls : List (List Bool)) (n a b i : ℕ) → ((length ls ≤ 64) × (b ≤ n) × (a + i < b) → ⊥)
    → None ≡ (if leb (length ls) 64 && leb b (length (values ls n)) then slice_get (by_size (slice_range (values ls n) a b)) i else None)
quantile_none ls n a b i refused =
    let xs : List ℕ = slice_range (values ls n) a b in
    let none : b ≤ a + i → slice_get (by_size xs) i ≡ None = λ short. slice_get_past (by_size xs) i (omega (arith, length-by_size xs, length-take (b - a) (drop a (values ls n)))) in
    let some = λ (few : length ls ≤ 64) (within : b ≤ n). not_lt (λ inside. refused (few, within, inside)) in
    grind (arith, nat_tests, none, some, length-values ls n)

pub quantile_goes : (v : List Bool) (ls : List (List Bool)) (a b i j to end number more k : ℕ) (bit : Bool) (o : Option ℕ) → o ≡ Some number → length ls ≡ k
    → a + i < b → b ≤ length v → to ≡ next bit v a → end ≡ next bit v b → to + j < end → j + cond bit (next false v b - next false v a) 0 ≡ i
    → more ≡ number + bit_value bit * 2 ^ k
    → Some (more + kth_symbol ls to end j) ≡ option_map (λ y. y + kth_symbol (v ∷ ls) a b i) o
quantile_goes v ls a b i j to end number more k bit o is long h within from last order left e =
    let parts : kth_symbol (v ∷ ls) a b i ≡ bit_value bit * 2 ^ k + kth_symbol ls to end j =
    rw (← long, from, last) (kth_goes bit v ls a b i j h within (omega arith) left) in
    let whole : more + kth_symbol ls to end j ≡ number + kth_symbol (v ∷ ls) a b i = omega (arith, e, parts) in
    ap Some whole ∙ sym (ap (option_map (λ y. y + kth_symbol (v ∷ ls) a b i)) is)

pub quantile_ends : (o : Option ℕ) (n a b i : ℕ) → IfSome o (λ y. (a + i < b) × (b ≤ n) × (0 ≤ 64) × HasRoom 64 0 y) → o ≡ option_map (λ y. y + kth_symbol [] a b i) o
quantile_ends None n a b i kept = refl
quantile_ends (Some y) n a b i kept = let e : y ≡ y + kth_symbol [] a b i = omega (arith, kth_symbol-lt [] a b i kept.0) in ap Some e
