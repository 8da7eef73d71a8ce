-- The final position of a symbol: after the symbols whose digits from the lowest to the highest make a lesser number, and the equal ones before it.
use Rattle.vers_wavelet.proofs.Names.{◌≡◌, ℕ, zero, suc, ◌+◌, ◌*◌, ◌%◌, ◌^◌, ◌<◌, ◌≤◌, Bool, true, false, cond, ltb, eqb, List, [], ◌∷◌, length, get_or, refl, sym, ap, ◌∙◌, arith, cases_Bool, add-one, mod-lt, mod-one, mod-eq_of_lt, slice_get, leb, ◌&&◌, if◌then◌else◌, None, Some, count_by, nat_tests, take_all, pow_pos, bit_value, start, next, value, values, count_positions, count_equal, final_position, digit, AllHaveLength, AreLevels, reversed_digits, gathered}
use Rattle.vers_wavelet.proofs.Answering.{get_begins, if_both}
use Rattle.vers_wavelet.proofs.Counting.{split_apart}
use Rattle.vers_wavelet.proofs.Digits.{digit_value, top_digit, one_split}
use Rattle.vers_wavelet.proofs.Lists.{count_is, first_counts, length-values}
use Rattle.vers_wavelet.proofs.Steps.{value_parts, even_rest, even_first, start_le, final_equal}
use Rattle.vers_wavelet.proofs.Values.{counts_all, next_none, split_all, value-lt, final_none, final_is, final-up}

-- ---- numbers by their digits from the lowest on

top : (s k : ℕ) → s % 2 ^ suc k ≡ bit_value (digit s k) * 2 ^ k + s % 2 ^ k
top s k = ap (λ m. s % 2 ^ m) (sym (add-one k)) ∙ top_digit s k

reversed_more : (k s : ℕ) → reversed_digits (suc k) s ≡ 2 * reversed_digits k s + bit_value (digit s k)
unfolding reversed_digits
reversed_more k s = ap (λ d. 2 * reversed_digits k s + d) (sym (digit_value s k))

-- they determine the digits, and the digits them
reversed_same : (k s t : ℕ) → s % 2 ^ k ≡ t % 2 ^ k → reversed_digits k s ≡ reversed_digits k t
unfolding reversed_digits
reversed_same zero s t e = refl
reversed_same (suc k) s t e =
    let parts = one_split (digit s k) (digit t k) (2 ^ k) _ _ (mod-lt s (pow_pos k)) (mod-lt t (pow_pos k)) (sym (top s k) ∙ e ∙ top t k) in
    reversed_more k s ∙ ap (λ d. 2 * reversed_digits k s + bit_value d) parts.0 ∙ ap (λ x. 2 * x + bit_value (digit t k)) (reversed_same k s t parts.1) ∙ sym (reversed_more k t)

reversed_apart : (k s t : ℕ) → reversed_digits k s ≡ reversed_digits k t → s % 2 ^ k ≡ t % 2 ^ k
reversed_apart zero s t e = mod-one s ∙ sym (mod-one t)
reversed_apart (suc k) s t e =
    let parts = split_apart (reversed_digits k t) (reversed_digits k s) (digit t k) (digit s k) (sym (reversed_more k s) ∙ e ∙ reversed_more k t) in
    top s k ∙ ap (λ d. bit_value d * 2 ^ k + s % 2 ^ k) parts.1 ∙ ap (λ r. bit_value (digit t k) * 2 ^ k + r) (reversed_apart k s t parts.0) ∙ sym (top t k)

reversed_tests : (k v s : ℕ) → v < 2 ^ k → eqb (reversed_digits k v) (reversed_digits k s) ≡ eqb v (s % 2 ^ k)
reversed_tests k v s small =
    grind (arith, nat_tests, mod-eq_of_lt small, reversed_same k v s, reversed_apart k v s)

-- a symbol's first digit becomes its last
reversed_value : (l : List Bool) (ls : List (List Bool)) (p : ℕ) (b : Bool) → get_or l p false ≡ b → reversed_digits (suc (length ls)) (value (l ∷ ls) p) ≡ 2 * reversed_digits (length ls) (value ls (next b l p)) + bit_value b
reversed_value l ls p b is =
    let k : ℕ = length ls in
    let v : ℕ = value (l ∷ ls) p in
    let parts = value_parts l ls p b is in
    reversed_more k v ∙ ap (λ d. 2 * reversed_digits k v + bit_value d) parts.0 ∙ ap (λ x. 2 * x + bit_value b) (reversed_same k v _ (parts.1 ∙ sym (mod-eq_of_lt (value-lt ls (next b l p)))))

last_test : (b bit : Bool) (a t : ℕ) → ltb (2 * a + bit_value b) (2 * t + bit_value bit) ≡ ltb a (cond b t (t + bit_value bit))
last_test b bit a t = grind (arith, nat_tests, cases_Bool b, cases_Bool bit)

-- ---- counts over the positions of a level

-- whether a position has a symbol whose digits make a number below t from the lowest to the highest
abbrev lies_before : List (List Bool) → ℕ → ℕ → Bool
lies_before ls t p = ltb (reversed_digits (length ls) (value ls p)) t

or_equal : (ls : List (List Bool)) (s n : ℕ) → count_positions (lies_before ls (reversed_digits (length ls) s + 1)) n ≡ count_positions (lies_before ls (reversed_digits (length ls) s)) n + count_equal ls (s % 2 ^ length ls) n
unfolding count_equal
or_equal ls s zero = refl
or_equal ls s (suc n) =
    let same : cond {A = ℕ} (eqb (reversed_digits (length ls) (value ls n)) (reversed_digits (length ls) s)) 1 0 ≡ cond (eqb (value ls n) (s % 2 ^ length ls)) 1 0 =
    ap {B = ℕ} (λ t. cond t 1 0) (reversed_tests (length ls) (value ls n) s (value-lt ls n)) in
    grind (arith, or_equal ls s n, same, nat_tests)

-- those of the zeros are before s too if they are equal to it but for a first digit that is 1
with_zeros : (bit : Bool) (l : List Bool) (ls : List (List Bool)) (s : ℕ)
    → count_positions (lies_before ls (reversed_digits (length ls) s + bit_value bit)) (start true l) ≡ count_positions (lies_before ls (reversed_digits (length ls) s)) (start true l) + count_equal ls (s % 2 ^ length ls) (start bit l)
unfolding count_equal
with_zeros true l ls s = or_equal ls s (start true l)
with_zeros false l ls s = let same : reversed_digits (length ls) s + 0 ≡ reversed_digits (length ls) s = omega arith in rw same (omega arith)

none_before : (s n : ℕ) → count_positions (lies_before [] (reversed_digits 0 s)) n ≡ 0
unfolding reversed_digits
none_before s n = counts_all _ false n (λ p. refl)

final_first : (ls : List (List Bool)) (n : ℕ) → AllHaveLength ls n → (s : ℕ) → final_position ls s 0 ≡ count_positions (lies_before ls (reversed_digits (length ls) s)) n
final_first [] n even s = final_none s 0 ∙ sym (none_before s n)
final_first (l ∷ ls) n even s =
    let k : ℕ = length ls in
    let bit : Bool = digit s k in
    let t : ℕ = reversed_digits k s in
    let rest = even_rest l ls n even in
    let long : length l ≡ n = even_first l ls n even in
    let test : (p : ℕ) (b : Bool) → get_or l p false ≡ b → lies_before (l ∷ ls) (reversed_digits (suc k) s) p ≡ ltb (2 * reversed_digits k (value ls (next b l p)) + bit_value b) (2 * t + bit_value bit) =
    λ p b is. ap (λ x. ltb x (reversed_digits (suc k) s)) (reversed_value l ls p b is) ∙ ap (λ x. ltb (2 * reversed_digits k (value ls (next b l p)) + bit_value b) x) (reversed_more k s) in
    let parts = split_all l (lies_before (l ∷ ls) (reversed_digits (suc k) s)) (lies_before ls (t + bit_value bit)) (lies_before ls t)
    (λ p off. test p false off ∙ last_test false bit (reversed_digits k (value ls (next false l p))) t)
    (λ p on. test p true on ∙ last_test true bit (reversed_digits k (value ls (next true l p))) t) n long in
    let equals = final_equal ls n rest s (start bit l) (omega (arith, start_le bit l, long)) in
    omega (arith, parts, with_zeros bit l ls s, final_first ls n rest s, equals, final_is l ls s 0, ap (final_position ls s) (next_none bit l))

-- the final position of a symbol from a position on
pub gathered_is : {ls : List (List Bool)} {n : ℕ} → AreLevels ls n → (s p to : ℕ) → p ≤ n → to ≡ final_position ls s p
    → to ≡ gathered (record { width = length ls; items = values ls n }) p (s % 2 ^ length ls)
gathered_is {ls} {n} levels s p to within leads =
    let k : ℕ = length ls in
    let c : ℕ = s % 2 ^ k in
    let t : ℕ = reversed_digits k c in
    let same : t ≡ reversed_digits k s = reversed_same k c s (mod-eq_of_lt (mod-lt s (pow_pos k))) in
    let counted : count_by (λ y. ltb (reversed_digits k y) t) (values ls n) ≡ count_positions (lies_before ls t) n =
    ap (λ (l : List ℕ). count_by (λ y. ltb (reversed_digits k y) t) l) (sym (take_all n (values ls n) (omega (arith, length-values ls n)))) ∙ first_counts (λ y. ltb (reversed_digits k y) t) ls n n (omega arith) in
    let first : final_position ls s 0 ≡ count_positions (lies_before ls t) n = final_first ls n levels.even s ∙ ap (λ x. count_positions (lies_before ls x) n) (sym same) in
    omega (arith, leads, counted, first, count_is levels s 0 p (final_position ls s 0) (final_position ls s p) (omega arith) within (omega arith), final-up ls s 0 p (omega arith))

pub gathered_begins : {ls : List (List Bool)} {n : ℕ} → AreLevels ls n → (s p : ℕ) → length ls ≤ 64 → p ≤ n
    → Some (final_position ls s p) ≡ (if leb (length ls) 64 && leb p (length (values ls n)) then Some (gathered (record { width = length ls; items = values ls n }) p (s % 2 ^ length ls)) else None)
gathered_begins {ls} {n} levels s p few within =
    ap Some (gathered_is levels s p _ within refl) ∙ if_both (length ls) 64 p (length (values ls n)) _ few (omega (arith, length-values ls n))

-- the same of the symbol at the position
pub gathered_here : {ls : List (List Bool)} {n : ℕ} → AreLevels ls n → (p to c : ℕ) → p < n → to ≡ final_position ls (value ls p) p → c ≡ 0 + value ls p
    → (slice_get (values ls n) p ≡ Some c) × (to ≡ gathered (record { width = length ls; items = values ls n }) p c)
gathered_here {ls} {n} levels p to c within leads is = (
  sym (ap Some is ∙ get_begins ls n p within),
  gathered_is levels (value ls p) p to (omega (arith, within)) leads ∙ ap (gathered (record { width = length ls; items = values ls n }) p) (mod-eq_of_lt (value-lt ls p) ∙ omega (arith, is)),
)
