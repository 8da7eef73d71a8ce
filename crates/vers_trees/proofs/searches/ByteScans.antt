-- Whole bytes of a scan, by the entries of their tables.
use Rattle.vers_trees.proofs.Names.{◌≡◌, ◌≢◌, ℕ, ◌+◌, ◌-◌, ◌*◌, ◌/◌, ◌%◌, ◌^◌, ◌<◌, ◌≤◌, Bool, true, false, List, length, take, drop, ℤ, pos, ◌+ℤ◌, ◌-ℤ◌, ◌≤ℤ◌, arith, sym, ap, Option, Some, FitsSigned, to_z, of_z, ◌∙◌, w64, count_ones, is_some, ints, nat_tests, mod-pow-add, take-append-drop, length-take-le, length-drop, drop-take, drop-drop, take_all, mod-eq_of_lt, number, part, limb, number_below, number-drop, count_limb, count_both, count_none, number-take, part_number_or_zero, excess, sum_past, IsByte, IsEntry, sum_along, position_along, position_in, least_in, greatest_in, IsRise, HasNoRise}
use Rattle.vers_trees.proofs.searches.Scans.{found, forward_more, backward_more}
use Rattle.vers_trees.proofs.grammar.Excess.{excess-append_left, excess-append_right}

-- ---- the excess along a part
pub length-part : (l : List Bool) (p n : ℕ) → p + n ≤ length l → length (part l p n) ≡ n
length-part l p n h = length-take-le n (drop p l) (let e = length-drop p l in omega arith)

pub excess-part : (l : List Bool) (p n j : ℕ) → p + n ≤ length l → j ≤ n → excess l (p + j) ≡ excess l p +ℤ excess (part l p n) j
excess-part l p n j h i =
    let m = length-part l p n h in
    grind (arith, ints, excess-append_left, excess-append_right, take-append-drop p l, length-take-le p l, ap (λ (m : List Bool). excess m j) (take-append-drop n (drop p l)))

-- the excess of at most 64 bits, by the ones of their number
pub excess-number : (bits : List Bool) (n : ℕ) → n ≤ 64 → length bits ≡ n → excess bits n ≡ pos (2 * count_ones (number bits)) -ℤ pos n
unfolding excess limb
excess-number bits n few e =
    let f : limb bits 0 % 2 ^ n ≡ number bits = rw (take_all 64 bits (omega arith)) (mod-eq_of_lt (number_below bits n (omega arith))) in
    grind (arith, ints, count_limb bits 0 n few, count_none true bits, count_both bits n)

pub total_of : (l : List Bool) (p n word : ℕ) (d : ℤ) → n ≤ 64 → p + n ≤ length l → word ≡ number (part l p n) → d ≡ pos (2 * count_ones word) -ℤ pos n → excess l (p + n) ≡ excess l p +ℤ d
total_of l p n word d few h e q = grind (arith, ints, excess-number, length-part, excess-part l p n n h (omega arith))

-- ---- the word at a position, and the byte in a word
word_is : (l : List Bool) (p n : ℕ) → n ≤ 64 → p + n ≤ length l → part_number_or_zero l p n ≡ Some (number (part l p n))
unfolding part_number_or_zero
word_is l p n few within = grind (arith, nat_tests)

pub read_some : (l : List Bool) (p n : ℕ) (o : Option ℕ) → o ≡ part_number_or_zero l p n → n ≤ 64 → p + n ≤ length l → is_some o ≡ true
read_some l p n o e few within = ap is_some (e ∙ word_is l p n few within)

word_read : (l : List Bool) (p n : ℕ) (o : Option ℕ) (word : ℕ) → o ≡ part_number_or_zero l p n → o ≡ Some word → n ≤ 64 → p + n ≤ length l → word ≡ number (part l p n)
word_read l p n o word e f few within = let w = word_is l p n few within in cc

pub whole_word : (l : List Bool) (p n : ℕ) (o : Option ℕ) (word : ℕ) → o ≡ part_number_or_zero l p n → o ≡ Some word → n ≡ 64 → p + n ≤ length l → word ≡ number (part l p 64)
whole_word l p n o word e f long within = word_read l p n o word e f (omega arith) within ∙ ap (λ (k : ℕ). number (part l p k)) long

pub byte_of_word : (l : List Bool) (s n m : ℕ) → m + 8 ≤ n → s + n ≤ length l → number (part l s n) / 2 ^ m % 256 ≡ number (part l (s + m) 8)
byte_of_word l s n m h i =
    let e : n ≡ m + (8 + (n - m - 8)) = omega arith in
    let b : drop m (take n (drop s l)) ≡ take (8 + (n - m - 8)) (drop m (drop s l)) = ap (λ (k : ℕ). drop m (take k (drop s l))) e ∙ drop-take m (8 + (n - m - 8)) (drop s l) in
    ap (λ (k : ℕ). k % 256) (sym (number-drop m (part l s n)) ∙ ap number (b ∙ ap (take (8 + (n - m - 8))) (drop-drop m s l))) ∙ front (n - m - 8) (drop (s + m) l)
  where
    front : (k : ℕ) (l : List Bool) → number (take (8 + k) l) % 2 ^ 8 ≡ number (take 8 l)
    front k l =
        let w : number l % 2 ^ (8 + k) ≡ number l % 2 ^ (k + 8) = ap (λ (n : ℕ). number l % 2 ^ n) (omega arith) in
        let s = mod-pow-add (number l) k 8 in let t = number-take (8 + k) l in let u = number-take 8 l in omega arith

pub byte_read : (l : List Bool) (s n m : ℕ) (o : Option ℕ) (word : ℕ) → o ≡ part_number_or_zero l s n → o ≡ Some word → n ≤ 64 → m + 8 ≤ n → s + n ≤ length l → IsByte (part l (s + m) 8) (word / 2 ^ m % 256)
byte_read l s n m o word e f few h i = record {
  eight = length-part l (s + m) 8 (omega arith);
  valued = sym (byte_of_word l s n m h i) ∙ ap (λ (w : ℕ). w / 2 ^ m % 256) (sym (word_read l s n o word e f few i));
}

-- ---- the sums met along a byte, from one of its ends: past a position, and at the end that the scan comes from
abbrev sum_from : Bool → List Bool → ℕ → ℤ
sum_from false l p = excess l p
sum_from true l p = excess l (p + 8)

along : (from_end : Bool) (l : List Bool) (p n : ℕ) → p + 8 ≤ length l → n < 8 → sum_past from_end l (p + position_along from_end n) ≡ sum_from from_end l p +ℤ sum_along from_end (part l p 8) (n + 1)
along false l p n a h = ap (excess l) (let g : p + n + 1 ≡ p + (n + 1) = omega arith in g) ∙ excess-part l p 8 (n + 1) a (omega arith)
along true l p n a h =
    let here : excess l (p + (7 - n)) ≡ excess l (p + (8 - (n + 1))) = ap (excess l) (omega arith) in
    omega (arith, ints, excess-part l p 8 8 a (omega arith), excess-part l p 8 (8 - (n + 1)) a (omega arith))

turned : (from_end : Bool) (n : ℕ) → n < 8 → (position_along from_end n < 8) × (position_along from_end (position_along from_end n) ≡ n)
turned from_end n h = grind arith

natural : (a : ℕ) (z : ℤ) → pos a ≤ℤ z → (n : ℕ) × (z ≡ pos n)
natural a z h = grind (arith, ints)

-- where none of the sums of an entry is t
missed : (from_end : Bool) (l : List Bool) (p entry : ℕ) (t : ℤ) → p + 8 ≤ length l → IsEntry from_end (part l p 8) entry → ((x : ℕ) → least_in entry ≤ x → x ≤ greatest_in entry → sum_from from_end l p +ℤ (pos x -ℤ pos 8) ≢ t) → (k : ℕ) → p ≤ k → k < p + 8 → sum_past from_end l k ≢ t
missed from_end l p entry t a e none k y z q =
    let n : ℕ = position_along from_end (k - p) in let m = turned from_end (k - p) (omega arith) in let s = along from_end l p n a m.0 in
    let here : sum_past from_end l (p + position_along from_end n) ≡ sum_past from_end l k = ap (sum_past from_end l) (omega arith) in
    let lo = e.low n m.0 in let hi = e.high n m.0 in let x = natural (least_in entry) (sum_along from_end (part l p 8) (n + 1) +ℤ pos 8) lo in
    none x.0 (omega (arith, ints)) (omega (arith, ints)) (omega (arith, ints))

-- where one of them is, at the position that the entry has for it
met : (from_end : Bool) (l : List Bool) (p entry x : ℕ) (t : ℤ) → p + 8 ≤ length l → IsEntry from_end (part l p 8) entry → least_in entry ≤ x → x ≤ greatest_in entry → sum_from from_end l p +ℤ (pos x -ℤ pos 8) ≡ t
    → (position_in entry x < 8) × (sum_past from_end l (p + position_in entry x) ≡ t) × ((k : ℕ) → p ≤ k → k < p + 8 → position_along from_end (k - p) < position_along from_end (position_in entry x) → sum_past from_end l k ≢ t)
met from_end l p entry x t a e u v z =
    let m = e.met x u v in
    let back : position_along from_end (position_in entry x) ≡ m.step = ap (position_along from_end) m.position ∙ (turned from_end m.step m.within).1 in
    let s = along from_end l p m.step a m.within in
    let here : sum_past from_end l (p + position_along from_end m.step) ≡ sum_past from_end l (p + position_in entry x) = ap (λ (n : ℕ). sum_past from_end l (p + n)) (sym m.position) in (
      omega arith,
      omega (arith, ints),
      λ k b c i q.
          let v = turned from_end (k - p) (omega arith) in let f = along from_end l p (position_along from_end (k - p)) a v.0 in
          let at : sum_past from_end l (p + position_along from_end (position_along from_end (k - p))) ≡ sum_past from_end l k = ap (sum_past from_end l) (omega arith) in
          m.first (position_along from_end (k - p)) (omega arith) (omega (arith, ints)),
    )

pub entry_ordered : (from_end : Bool) (bits : List Bool) (entry : ℕ) → IsEntry from_end bits entry → least_in entry ≤ greatest_in entry
entry_ordered from_end bits entry e = omega (arith, ints, e.high 0 (omega arith), e.low 0 (omega arith))

-- ---- forwards
pub forward_byte_found : (l : List Bool) (from p end : ℕ) (r rise : ℤ) (entry x : ℕ) → HasNoRise false l from p r rise → from ≤ p → p + 8 ≤ end → end ≤ length l → IsEntry false (part l p 8) entry → least_in entry ≤ x → x ≤ greatest_in entry → rise +ℤ (pos x -ℤ pos 8) ≡ r → IsRise false l from end r (p + position_in entry x)
forward_byte_found l from p end r rise entry x h o a b e u v z =
    let m = met false l p entry x (excess l from +ℤ r) (omega arith) e u v (omega (arith, ints)) in
    found false l from p (p + position_in entry x) end r rise (pos x -ℤ pos 8) h (omega arith, omega arith) (λ k y. m.2 k y.0 (omega arith) (omega arith)) (omega (arith, ints)) z

pub forward_byte : (l : List Bool) (from p q : ℕ) (r rise d : ℤ) (entry byte : ℕ) → HasNoRise false l from p r rise → length l < 2 ^ 63 → from ≤ p → q ≡ p + 8 → q ≤ length l → IsByte (part l p 8) byte → ((bits : List Bool) → IsByte bits byte → IsEntry false bits entry)
    → ((x : ℕ) → least_in entry ≤ x → x ≤ greatest_in entry → rise +ℤ (pos x -ℤ pos 8) ≢ r) → d ≡ pos (2 * count_ones byte) -ℤ pos 8 → FitsSigned w64 (rise +ℤ to_z w64 (of_z w64 d)) × HasNoRise false l from q r (to_z w64 (of_z w64 (rise +ℤ to_z w64 (of_z w64 d))))
forward_byte l from p q r rise d entry byte h short o n a is e none k =
    rw n (forward_more l from p (p + 8) r rise d h short o (omega arith) (omega arith) (total_of l p 8 byte d (omega arith) (omega arith) (sym is.valued) k) (λ i b. missed false l p entry _ (omega arith) (e _ is) (λ x u v w. none x u v (omega (arith, ints))) i b.0 b.1))

-- ---- backwards
pub backward_byte_found : (l : List Bool) (from p q end : ℕ) (r rise : ℤ) (entry x : ℕ) → HasNoRise true l end q r rise → q ≡ p + 8 → from ≤ p → q ≤ end → end ≤ length l → IsEntry true (part l p 8) entry → least_in entry ≤ x → x ≤ greatest_in entry → rise +ℤ (pos x -ℤ pos 8) ≡ r → IsRise true l end from r (p + position_in entry x)
backward_byte_found l from p q end r rise entry x h n o a b e u v z =
    let k = rw n at h in let m = met true l p entry x (excess l end +ℤ r) (omega arith) e u v (omega (arith, ints)) in
    found true l end (p + 8) (p + position_in entry x) from r rise (pos x -ℤ pos 8) k (omega arith, omega arith) (λ k y. let u = y.1 in m.2 k (omega arith) u (omega arith)) (omega (arith, ints)) z

pub backward_byte : (l : List Bool) (p q end : ℕ) (r rise d : ℤ) (entry byte : ℕ) → HasNoRise true l end q r rise → length l < 2 ^ 63 → q ≡ p + 8 → q ≤ end → end ≤ length l → IsByte (part l p 8) byte → ((bits : List Bool) → IsByte bits byte → IsEntry true bits entry)
    → ((x : ℕ) → least_in entry ≤ x → x ≤ greatest_in entry → rise +ℤ (pos x -ℤ pos 8) ≢ r) → d ≡ pos (2 * count_ones byte) -ℤ pos 8 → FitsSigned w64 (rise -ℤ to_z w64 (of_z w64 d)) × HasNoRise true l end p r (to_z w64 (of_z w64 (rise -ℤ to_z w64 (of_z w64 d))))
backward_byte l p q end r rise d entry byte h short n o a is e none k =
    let g = rw n at h in
    backward_more l p (p + 8) end r rise d g short (omega arith) (omega arith) a (total_of l p 8 byte d (omega arith) (omega arith) (sym is.valued) k) (λ i b. missed true l p entry _ (omega arith) (e _ is) (λ x u v w. none x u v (omega (arith, ints))) i b.0 b.1)
