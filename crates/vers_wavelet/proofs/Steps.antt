-- One level of a search.
use Rattle.vers_wavelet.proofs.Names.{◌≡◌, ℕ, zero, suc, ◌+◌, ◌-◌, ◌*◌, ◌%◌, ◌^◌, ◌<◌, ◌≤◌, Bool, false, cond, List, [], ◌∷◌, length, take, drop, get_or, refl, sym, ap, ◌∙◌, subst, arith, add-one, drop-cons, pow-suc, mod-lt, mod-eq_of_lt, mul-le-mul_right, mod-one, pow_pos, length-drop, drop_all, take_all, bit_value, bit_value_le, count, select, select_holds, Reads, IsWithin, times, start, next, value, count_below, count_equal, final_position, digit, AllHaveLength, AreLevels, Narrowed, IsKthInRange, HasRoom, ReducesKth, LeadsTo}
use Rattle.vers_wavelet.proofs.Digits.{top_digit, one_split}
use Rattle.vers_wavelet.proofs.Values.{same_bit, value-lt, below_all, below_step, equal_below, next_none, next-up, next-le, none_below, all_equal, value_is, value_none, final_none, final_is, final-up, equal_more}

cond_gap : (bit : Bool) (a b : ℕ) → a ≤ b → cond bit b 0 ≡ cond bit a 0 + cond bit (b - a) 0
cond_gap bit a b order = grind arith

-- of the positions that continue with the bit, element j by size makes element i of all
pub kth_step : (bit : Bool) (l : List Bool) (ls : List (List Bool)) (a b i j x : ℕ) → a ≤ b → b ≤ length l → x < 2 ^ length ls
    → j + cond bit (next false l b - next false l a) 0 ≡ i
    → IsKthInRange ls (next bit l a) (next bit l b) j x → IsKthInRange (l ∷ ls) a b i (bit_value bit * 2 ^ length ls + x)
kth_step bit l ls a b i j x order within small e k =
    let y : ℕ = bit_value bit * 2 ^ length ls + x in
    let zeros = cond_gap bit (next false l a) (next false l b) (next-up false l a b order) in
    let first = λ (p : ℕ) (h : p ≤ length l). below_step bit l ls x y p refl (omega arith) h in
    let last = λ (p : ℕ) (h : p ≤ length l). below_step bit l ls (x + 1) (y + 1) p (omega arith) (omega arith) h in
    record {
      less = omega (arith, e, zeros, k.less, first a (omega arith), first b within);
      more = omega (arith, e, zeros, k.more, last a (omega arith), last b within);
    }

pub kth-lt : (ls : List (List Bool)) (a b i x : ℕ) → IsKthInRange ls a b i x → a + i < b → x < 2 ^ length ls
kth-lt ls a b i x kth h = grind (arith, kth.less, below_all ls x a, below_all ls x b)

module _ (ls : List (List Bool)) (k : ℕ) (h : k < length ls) where
  pub level_at : (v : List Bool) → v ≡ get_or ls k v → drop k ls ≡ v ∷ drop (k + 1) ls
  level_at v at = drop-cons ls k v h ∙ ap (λ x. x ∷ drop (suc k) ls) (sym at) ∙ ap (λ n. v ∷ drop n ls) (sym (add-one k))

-- the digits of s from level k on: the first of them, and the others
pub digit_from : (s m k : ℕ) → k < m → s % 2 ^ (m - k) ≡ bit_value (digit s (m - (k + 1))) * 2 ^ (m - (k + 1)) + s % 2 ^ (m - (k + 1))
digit_from s m k h =
    let e : m - k ≡ m - (k + 1) + 1 = omega arith in rw e (top_digit s (m - (k + 1)))

-- the digits of a symbol from a level on: the bit at its position, and the others
pub value_parts : (l : List Bool) (ls : List (List Bool)) (p : ℕ) (b : Bool) → get_or l p false ≡ b → (digit (value (l ∷ ls) p) (length ls) ≡ b) × (value (l ∷ ls) p % 2 ^ length ls ≡ value ls (next b l p))
value_parts l ls p b is =
    let k : ℕ = length ls in
    let v : ℕ = value (l ∷ ls) p in
    let whole = ap (λ n. v % 2 ^ n) (add-one k) ∙ mod-eq_of_lt (value-lt (l ∷ ls) p) ∙ value_is l ls p b is in
    one_split (digit v k) b (2 ^ k) _ _ (mod-lt v (pow_pos k)) (value-lt ls (next b l p)) (sym (top_digit v k) ∙ whole)

-- ---- final positions

pub even_rest : (l : List Bool) (ls : List (List Bool)) (n : ℕ) → AllHaveLength (l ∷ ls) n → AllHaveLength ls n
even_rest l ls n even = λ k d h. even (suc k) d (omega arith)

pub even_first : (l : List Bool) (ls : List (List Bool)) (n : ℕ) → AllHaveLength (l ∷ ls) n → length l ≡ n
even_first l ls n even = even zero l (omega arith)

pub start_le : (bit : Bool) (l : List Bool) → start bit l ≤ length l
start_le bit l = omega (arith, next_none bit l, next-le bit l 0)

-- the positions that have s before a position are as far apart below the last level
pub final_equal : (ls : List (List Bool)) (n : ℕ) → AllHaveLength ls n → (s i : ℕ) → i ≤ n → count_equal ls (s % 2 ^ length ls) i + final_position ls s 0 ≡ final_position ls s i
final_equal [] n even s i h =
    let none : s % 2 ^ 0 ≡ 0 = omega arith in
    omega (arith, ap (λ y. count_equal [] y i) none, all_equal i, final_none s 0, final_none s i)
final_equal (l ∷ ls) n even s i h =
    let bit : Bool = digit s (length ls) in
    let whole = ap (λ m. s % 2 ^ m) (sym (add-one (length ls))) ∙ top_digit s (length ls) in
    let here = final_equal ls n (even_rest l ls n even) s (next bit l i) (omega (arith, next-le bit l i, even_first l ls n even)) in
    let first = final_equal ls n (even_rest l ls n even) s (start bit l) (omega (arith, start_le bit l, even_first l ls n even)) in
    let small = mod-lt s (pow_pos (length ls)) in
    let r : ℕ = s % 2 ^ length ls in
    let y : ℕ = s % 2 ^ length (l ∷ ls) in
    let inside : i ≤ length l = omega (arith, even_first l ls n even) in
    let below = below_step bit l ls r y i whole (omega arith) inside in
    let not_above = below_step bit l ls (r + 1) (y + 1) i (omega (arith, whole)) (omega arith) inside in
    omega (arith, below, not_above, equal_below (l ∷ ls) y i, equal_below ls r (start bit l), equal_below ls r (next bit l i), here, first, final_is l ls s i, final_is l ls s 0, ap (final_position ls s) (next_none bit l))

-- a position that has s has a position of its own there
pub final_more : (ls : List (List Bool)) (n : ℕ) → AllHaveLength ls n → (s i : ℕ) → i < n → value ls i ≡ s % 2 ^ length ls → final_position ls s (i + 1) ≡ final_position ls s i + 1
final_more ls n even s i h e = omega (arith, final_equal ls n even s i (omega arith), final_equal ls n even s (i + 1) (omega arith), equal_more ls (s % 2 ^ length ls) i e)

-- the positions that have s are between those of a level below
pub final_between : (ls : List (List Bool)) (n : ℕ) → AllHaveLength ls n → (s k : ℕ) → (final_position (drop k ls) s 0 ≤ final_position ls s 0) × (final_position ls s n ≤ final_position (drop k ls) s n)
final_between ls n even s zero = (omega arith, omega arith)
final_between [] n even s (suc k) = (omega arith, omega arith)
final_between (l ∷ ls) n even s (suc k) =
    let bit : Bool = digit s (length ls) in
    let below = final_between ls n (even_rest l ls n even) s k in
    let down : next bit l n ≤ n = omega (arith, next-le bit l n, even_first l ls n even) in
    (omega (arith, below.0, final-up ls s 0 (next bit l 0) (omega arith), final_is l ls s 0), omega (arith, below.1, final-up ls s (next bit l n) n down, final_is l ls s n))

pub even_drop : (ls : List (List Bool)) (n : ℕ) → AllHaveLength ls n → (k : ℕ) → AllHaveLength (drop k ls) n
even_drop ls n even zero = even
even_drop [] n even (suc k) = even
even_drop (l ∷ ls) n even (suc k) = even_drop ls n (even_rest l ls n even) k

module _ (ls : List (List Bool)) (s k : ℕ) (h : k < length ls) (v : List Bool) (at : v ≡ get_or ls k v) (bit : Bool) (is : bit ≡ digit s (length ls - (k + 1))) where
  abbrev rest : ℕ
  rest = s % 2 ^ (length ls - (k + 1))

  abbrev lower : List (List Bool)
  lower = drop (k + 1) ls

  whole : s % 2 ^ (length ls - k) ≡ bit_value bit * 2 ^ length lower + rest
  whole = rw (is, length-drop (k + 1) ls) (digit_from s (length ls) k h)

  small : rest < 2 ^ length lower
  small = rw (length-drop (k + 1) ls) (mod-lt s (pow_pos (length ls - (k + 1))))

  below_at : (i : ℕ) → i ≤ length v
      → count_below (drop k ls) (s % 2 ^ (length ls - k)) i + count_below lower rest (start bit v)
      ≡ cond bit (next false v i) 0 + count_below lower rest (next bit v i)
  below_at i within = rw (level_at ls k h v at) (below_step bit v lower rest _ i whole (omega (arith, small)) within)

  pub final_down : (i : ℕ) → final_position (drop k ls) s i ≡ final_position lower s (next bit v i)
  final_down i = rw (level_at ls k h v at, final_is v lower s i, length-drop (k + 1) ls, ← is)

  -- the two ends of a range, one level down
  pub narrowed_more : {from to a b less : ℕ} → a ≤ length v → b ≤ length v → a ≤ b
      → Narrowed ls s from to k a b less
      → Narrowed ls s from to (k + 1) (next bit v a) (next bit v b) (less + cond bit (next false v b - next false v a) 0)
  narrowed_more {from} {to} {a} {b} {less} ha hb order n = record {
    less_is = omega (arith, below_at a ha, below_at b hb, n.less_is, cond_gap bit (next false v a) (next false v b) (next-up false v a b order));
    from_is = sym (final_down a) ∙ n.from_is;
    to_is = sym (final_down b) ∙ n.to_is;
  }

  -- one level up
  module _ (n : ℕ) (even : AllHaveLength ls n) (target q : ℕ) (up : LeadsTo ls n s target (k + 1) q) where
    long : length v ≡ n
    long = ap length at ∙ even k v h

    -- what leads to a symbol that is s is among those of its digit
    pub rise_inside : final_position ls s 0 ≤ target → target < final_position ls s n → (start bit v ≤ q) × (q < next bit v (length v))
    rise_inside low high =
        let more = final_more lower n (even_drop ls n even (k + 1)) s q up.within (up.holds ∙ ap (λ m. s % 2 ^ m) (sym (length-drop (k + 1) ls))) in
        let between = final_between ls n even s k in (
          grind (arith, up.leads, more, final-up lower s (q + 1) (start bit v), final_down 0, ap (final_position lower s) (next_none bit v), between.0),
          grind (arith, up.leads, final-up lower s (next bit v (length v)) q, final_down (length v), ap (final_position (drop k ls) s) long, between.1),
        )

    pub rise_to : start bit v ≤ q → q < next bit v (length v) → LeadsTo ls n s target k (select bit v (q - start bit v))
    unfolding next
    rise_to from before =
        let r : ℕ = q - start bit v in
        let few : r < count bit v (length v) = omega (arith, before, from) in
        let at' = select_holds bit v r (length v) (omega arith) few in
        let p : ℕ = select bit v r in
        let back : next bit v p ≡ q = omega (arith, at'.2, from) in
        record {
          within = omega (arith, at'.0, long);
          holds = rw (level_at ls k h v at, value_is v lower p bit (same_bit bit _ at'.1), back, up.holds) (sym whole);
          leads = rw (final_down p, back) up.leads;
        }

pub rise_none : (ls : List (List Bool)) (n s target k : ℕ) → k ≡ length ls → target < n → LeadsTo ls n s target k target
rise_none ls n s target k e h =
    let none : drop k ls ≡ [] = drop_all k ls (omega arith) in
    let end : length ls - k ≡ 0 = omega arith in
    record { within = h; holds = rw (none, end) (value_none target ∙ omega arith); leads = rw none (final_none s target) }

-- one level of a search by size
module _ (ls : List (List Bool)) (k : ℕ) (h : k < length ls) (v : List Bool) (at : v ≡ get_or ls k v) where
  abbrev weight : ℕ
  weight = 2 ^ (length ls - (k + 1))

  -- the elements by size of a range, by those of the positions that continue with the bit
  pub reduces_more : (bit : Bool) {from to a b c d number made : ℕ} (th more : ℕ) → a ≤ b → b ≤ length v → c ≡ next bit v a → d ≡ next bit v b
      → more ≡ th + cond bit (next false v b - next false v a) 0 → made ≡ number + bit_value bit * weight
      → ((j : ℕ) → ReducesKth ls from to (th + j) k a b j number)
      → (j : ℕ) → ReducesKth ls from to (more + j) (k + 1) c d j made
  reduces_more bit {from} {to} {a} {b} {c} {d} {number} {made} th more order within first last e is s j = record {
    each = λ x small kth.
        let i : ℕ = j + cond bit (next false v b - next false v a) 0 in
        let left = length-drop (k + 1) ls in
        let here = kth_step bit v (drop (k + 1) ls) a b i j x order within (rw left small) refl (rw (first, last) at kth) in
        let element : more + j ≡ th + i = omega (arith, e) in
        let sum : made + x ≡ number + (bit_value bit * weight + x) = omega (arith, is) in
        let deeper : length ls - k ≡ suc (length ls - (k + 1)) = omega arith in
        let fits : bit_value bit * weight + x < 2 ^ (length ls - k) =
        rw deeper (omega (arith, pow-suc 2 (length ls - (k + 1)), mul-le-mul_right weight (bit_value_le bit))) in
        rw (element, sum) ((s i).each (bit_value bit * weight + x) fits (rw (level_at ls k h v at, ← left) here));
  }

  -- where the digits of s from the level on are held, the bit is the first of them, and the next level holds the others
  pub held_more : (bit : Bool) (s p : ℕ) → get_or v p false ≡ bit → value (drop k ls) p ≡ s % 2 ^ (length ls - k)
      → (bit ≡ digit s (length ls - (k + 1))) × (value (drop (k + 1) ls) (next bit v p) ≡ s % 2 ^ (length ls - (k + 1)))
  held_more bit s p is holds =
      let small : value (drop (k + 1) ls) (next bit v p) < weight = omega (arith, value-lt (drop (k + 1) ls) (next bit v p), ap (λ n. 2 ^ n) (length-drop (k + 1) ls)) in
      let here : value (drop k ls) p ≡ bit_value bit * weight + value (drop (k + 1) ls) (next bit v p) = rw (level_at ls k h v at, value_is v (drop (k + 1) ls) p bit is, length-drop (k + 1) ls) in
      one_split bit (digit s (length ls - (k + 1))) weight _ _ small (mod-lt s (pow_pos (length ls - (k + 1)))) (sym here ∙ holds ∙ digit_from s (length ls) k h)

-- with no level read yet
pub held_all : (ls : List (List Bool)) (p : ℕ) → value ls p ≡ value ls p % 2 ^ (length ls - 0)
held_all ls p = let e : length ls - 0 ≡ length ls = omega arith in sym (ap (λ n. value ls p % 2 ^ n) e ∙ mod-eq_of_lt (value-lt ls p))

pub all_levels : (width k : ℕ) {number : ℕ} → HasRoom width k number → HasRoom width (k - 0) number
all_levels width k room = let e : k - 0 ≡ k = omega arith in rw e room

pub reduces_none : (ls : List (List Bool)) (from to th i number : ℕ) → th ≡ i → number ≡ 0 → ReducesKth ls from to th 0 from to i number
reduces_none ls from to th i number e z = record { each = λ x small k. let sum : number + x ≡ x = omega arith in rw (sum, e) k }

pub reduces_all : {ls : List (List Bool)} {from to th k a b i number : ℕ} → k ≡ length ls → ReducesKth ls from to th k a b i number → a + i < b → IsKthInRange ls from to th number
reduces_all {ls} {from} {to} {th} {k} {a} {b} {i} {number} e s order =
    let none : drop k ls ≡ [] = drop_all k ls (omega arith) in
    let w : 2 ^ (length ls - k) ≡ 1 = (let z : length ls - k ≡ 0 = omega arith in ap (λ n. 2 ^ n) z) in
    let all = λ (n : ℕ). below_all [] 1 n (omega arith) in
    let kth : IsKthInRange [] a b i 0 = record { less = omega (arith, none_below a, none_below b); more = omega (arith, all a, all b) } in
    let r : number + 0 ≡ number = omega arith in
    subst (IsKthInRange ls from to th) r (s.each 0 (omega (arith, w)) (rw none kth))

-- the levels from one on
pub levels_from : (ls : List (List Bool)) (k : ℕ) → take (length ls - k) (drop k ls) ≡ drop k ls
levels_from ls k = take_all (length ls - k) (drop k ls) (omega (arith, length-drop k ls))

pub narrowed_none : (ls : List (List Bool)) (s from to : ℕ) → Narrowed ls s from to 0 from to 0
narrowed_none ls s from to =
    let e : length ls - 0 ≡ length ls = omega arith in
    record { less_is = ap (λ n. 0 + count_below ls (s % 2 ^ n) to + count_below ls (s % 2 ^ length ls) from) e ∙ omega arith ∙ ap (λ n. count_below ls (s % 2 ^ n) from + count_below ls (s % 2 ^ length ls) to) (sym e); from_is = refl; to_is = refl }

pub narrowed_all : {ls : List (List Bool)} {s from to k a b less : ℕ} → k ≡ length ls → Narrowed ls s from to k a b less
    → (less + count_below ls (s % 2 ^ length ls) from ≡ count_below ls (s % 2 ^ length ls) to) × (a ≡ final_position ls s from) × (a + final_position ls s to ≡ b + final_position ls s from)
narrowed_all {ls} {s} {from} {to} {k} {a} {b} {less} e n =
    let none : drop k ls ≡ [] = drop_all k ls (omega arith) in
    let z : length ls - k ≡ 0 = omega arith in
    let first = sym (final_none s a) ∙ rw none at n.from_is in
    (omega (arith, rw (none, z, mod-one s) at n.less_is, none_below a, none_below b), first, omega (arith, first, final_none s b, rw none at n.to_is))

-- the final position of a position, after all levels
pub final_all : (ls : List (List Bool)) (s k p from : ℕ) → k ≡ length ls → final_position (drop k ls) s p ≡ final_position ls s from → p ≡ final_position ls s from
final_all ls s k p from e w = sym (final_none s p) ∙ ap (λ m. final_position m s p) (sym (drop_all k ls (omega arith))) ∙ w

-- the occurrences of s in a range, by the final positions of its ends
pub final_parts : {ls : List (List Bool)} {n : ℕ} → AreLevels ls n → (s a b : ℕ) → a ≤ b → b ≤ n → final_position ls s b - final_position ls s a + count_equal ls (s % 2 ^ length ls) a ≡ count_equal ls (s % 2 ^ length ls) b
final_parts {ls} {n} levels s a b order within = omega (arith, final_equal ls n levels.even s a (omega arith), final_equal ls n levels.even s b within, final-up ls s a b order)

pub ruleset narrowing = (next-le, next-up, narrowed_none)

pub ruleset searching = (reduces_none, next-le, next-up)

pub final_within : {ls : List (List Bool)} {n : ℕ} → AreLevels ls n → (s : ℕ) → final_position ls s n ≤ n
final_within {ls} {n} levels s = omega (arith, (final_between ls n levels.even s (length ls)).1, ap (λ m. final_position m s n) (drop_all (length ls) ls (omega arith)) ∙ final_none s n)

pub rise_at : {ls : List (List Bool)} {n s target m q : ℕ} (k : ℕ) → m ≡ k + 1 → LeadsTo ls n s target m q → LeadsTo ls n s target (k + 1) q
rise_at k e up = rw e at up

pub rise_all : {ls : List (List Bool)} {n s target k q : ℕ} → k ≡ 0 → LeadsTo ls n s target k q → (value ls q ≡ s % 2 ^ length ls) × (final_position ls s q ≡ target)
rise_all {ls} e up =
    let none : length ls - 0 ≡ length ls = omega arith in
    (rw (e, none) at up.holds, rw e at up.leads)

-- the position it leads to is one of those that have s
pub rise_below : {ls : List (List Bool)} {n s target k q : ℕ} → AreLevels ls n → k ≡ 0 → LeadsTo ls n s target k q → target < final_position ls s n
rise_below {ls} {n} {s} {target} {k} {q} levels e up =
    let top = rise_all e up in
    omega (arith, top.1, final_more ls n levels.even s q up.within top.0, final-up ls s (q + 1) n (omega (arith, up.within)))

-- a bound fewer times
pub times_less : (i m : ℕ) (r : Reads) → i ≤ m → IsWithin (times i r) (times m r)
times_less i m r h = search (mul-le-mul_right)
