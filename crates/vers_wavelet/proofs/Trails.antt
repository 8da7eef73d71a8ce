-- The way down to a nearest symbol, level by level, and what it finds.
use Rattle.vers_wavelet.proofs.Names.{◌≡◌, ℕ, ◌+◌, ◌-◌, ◌*◌, ◌%◌, ◌^◌, ◌<◌, ◌≤◌, Bool, true, false, not, cases_Bool, cond, leb, ltb, List, length, get_or, drop, refl, sym, ap, subst, ◌∙◌, arith, beq, slice_range, Some, None, count_by, length-drop, count_by-le-length, bit_value, next, count_below, final_position, values, digit, AreLevels, IsKthInRange, HasBeside, IsTrail, nearest}
use Rattle.vers_wavelet.specs.declared.wavelet.nearest.Trail.{Trail}
use Rattle.vers_wavelet.proofs.Values.{next_both, next-le, next-up}
use Rattle.vers_wavelet.proofs.Steps.{digit_from, narrowed_more, reduces_more, narrowed_none, reduces_none, kth-lt}
use Rattle.vers_wavelet.proofs.BySize.{kth_position}
use Rattle.vers_wavelet.proofs.Lists.{length-part, below_is, not_above_is, kth_is}
use Rattle.vers_wavelet.proofs.Nearest.{nearest_same, nearest_is, nearest_none}

leaves_as : (up : Bool) (ls : List (List Bool)) (n s from to : ℕ) (t u : Trail) → u.beside ≡ t.beside
    → cond up (u.part.less + (u.part.end - u.part.start)) u.part.less ≡ cond up (t.part.less + (t.part.end - t.part.start)) t.part.less
    → HasBeside up ls n s from to t → HasBeside up ls n s from to u
leaves_as true ls n s from to t u same e l = rw same (record { order = l.order; within = l.within; none = λ q. e ∙ l.none q; some = l.some; found = λ q number p. rw e (l.found q number p) })
leaves_as false ls n s from to t u same e l = rw same (record { order = l.order; within = l.within; none = λ q. e ∙ l.none q; some = λ q. rw e (l.some q); found = λ q number p. rw e (l.found q number p) })

-- what a comparison of two bits gives
pub same_bits : (b c : Bool) → beq b c ≡ true → b ≡ not c → ⊥
same_bits b c e other = grind arith

pub other_bits : (b c : Bool) → beq b c ≡ false → b ≡ not c
other_bits b c e = grind arith

module _ (ls : List (List Bool)) (n s from to k : ℕ) (h : k < length ls) (v : List Bool) (at : v ≡ get_or ls k v) (long : length v ≡ n) (bit : Bool) (is : bit ≡ digit s (length ls - (k + 1))) where
  abbrev m : ℕ
  m = length ls

  -- the digits followed so far make the number of one digit more
  prefix_more : s % 2 ^ (m - k) ≤ s % 2 ^ m → (s % 2 ^ m - s % 2 ^ (m - k)) + bit_value bit * 2 ^ (m - (k + 1)) ≡ s % 2 ^ m - s % 2 ^ (m - (k + 1))
  prefix_more low = omega (arith, digit_from s m k h, ap (λ d. bit_value d * 2 ^ (m - (k + 1))) is)

  pub follows_more : (up : Bool) (t u : Trail) → IsTrail up ls n s from to k t → u.part.start ≡ next bit v t.part.start → u.part.end ≡ next bit v t.part.end
      → u.part.less ≡ t.part.less + cond bit (next false v t.part.end - next false v t.part.start) 0 → u.part.start ≤ u.part.end
      → u.part.less + (u.part.end - u.part.start) ≤ t.part.less + (t.part.end - t.part.start) → HasBeside up ls n s from to u → IsTrail up ls n s from to (k + 1) u
  follows_more up t u f first last less order few leaves = record {
    order = order;
    within = omega (arith, last, next-le bit v t.part.end);
    few = omega (arith, few, f.few);
    narrowed = rw (first, last, less) (narrowed_more ls s k h v at bit is (omega (arith, f.order, f.within)) (omega (arith, f.within)) f.order f.narrowed);
    digits = omega (arith, f.digits, digit_from s m k h);
    reduced = reduces_more ls k h v at bit t.part.less u.part.less f.order (omega (arith, f.within)) first last less (sym (prefix_more f.digits)) f.reduced;
    leaves = leaves;
  }

  -- nothing new was left beside
  pub leaves_kept : (up : Bool) (t u : Trail) → IsTrail up ls n s from to k t → u.part.start ≡ next bit v t.part.start → u.part.end ≡ next bit v t.part.end
      → u.part.less ≡ t.part.less + cond bit (next false v t.part.end - next false v t.part.start) 0 → u.beside ≡ t.beside
      → (bit ≡ not up → next up v t.part.start ≡ next up v t.part.end) → HasBeside up ls n s from to u
  leaves_kept up t u f first last less same empty =
      let a : ℕ = t.part.start in
      let b : ℕ = t.part.end in
      let passed : cond up (u.part.less + (u.part.end - u.part.start)) u.part.less ≡ cond up (t.part.less + (b - a)) t.part.less = grind (arith, first, last, less, empty, next_both v a b f.order, next-up true v a b f.order, next-up false v a b f.order, f.within, long) in
      leaves_as up ls n s from to t u same passed f.leaves

  -- the other positions were left beside
  pub leaves_new : (up : Bool) (t u : Trail) → IsTrail up ls n s from to k t → u.part.start ≡ next bit v t.part.start → u.part.end ≡ next bit v t.part.end
      → u.part.less ≡ t.part.less + cond bit (next false v t.part.end - next false v t.part.start) 0
      → u.beside.level ≡ k + 1 → u.beside.start ≡ next up v t.part.start → u.beside.end ≡ next up v t.part.end → bit ≡ not up
      → next up v t.part.start < next up v t.part.end → HasBeside up ls n s from to u
  leaves_new up t u f first last less deep left right other some =
      let a : ℕ = t.part.start in
      let b : ℕ = t.part.end in
      let z : ℕ = cond up (next false v b - next false v a) 0 in
      let j : ℕ = cond up 0 (next up v b - next up v a - 1) in
      let th : cond up (u.part.less + (u.part.end - u.part.start)) (u.part.less - 1) ≡ t.part.less + z + j = grind (arith, first, last, less, some, other, cases_Bool up) in
      let behind : 0 < cond up 1 u.part.less = grind (arith, less, some, other, cases_Bool up) in
      rw (deep, left, right) (record {
        order = omega (arith, some);
        within = omega (arith, next-le up v b);
        none = λ q. absurd (omega (arith, q, some));
        some = λ q. (omega arith, omega arith, behind);
        found = λ q number e.
            let here : m - (k + 1) + 1 ≡ m - k = omega arith in
            let is' : number ≡ s % 2 ^ m - s % 2 ^ (m - k) = omega (arith, e, ap (λ i. s % 2 ^ i) here) in
            rw (th, is') (reduces_more ls k h v at up t.part.less (t.part.less + z) f.order (omega (arith, f.within)) refl refl refl refl f.reduced j);
      })

-- before the first level
pub follows_none : (up : Bool) (ls : List (List Bool)) (n s from to : ℕ) → from ≤ to → to ≤ n
    → IsTrail up ls n s from to 0 (record { part = record { start = from; end = to; less = 0 }; beside = record { level = 0; start = 0; end = 0 } })
follows_none up ls n s from to order within =
    let z : length ls - 0 ≡ length ls = omega arith in
    let all : s % 2 ^ (length ls - 0) ≡ s % 2 ^ length ls = ap (λ i. s % 2 ^ i) z in
    record {
      order = order;
      within = within;
      few = omega arith;
      narrowed = narrowed_none ls s from to;
      digits = omega (arith, all);
      reduced = λ j. reduces_none ls from to _ j _ (omega arith) (omega (arith, all));
      leaves = record { order = omega arith; within = omega arith; none = λ q. grind arith; some = λ q. absurd (omega (arith, q)); found = λ q number e. absurd (omega (arith, q)) };
    }

-- ---- what is found

-- the symbol itself
pub found_same : {ls : List (List Bool)} {n : ℕ} → AreLevels ls n → (up : Bool) (s from to a b less x : ℕ) → from ≤ to → to ≤ n → a < b → a + final_position ls s to ≡ b + final_position ls s from
    → less + count_below ls (s % 2 ^ length ls) from ≡ count_below ls (s % 2 ^ length ls) to → x + s % 2 ^ 0 ≡ s % 2 ^ length ls → nearest up (slice_range (values ls n) from to) (s % 2 ^ length ls) ≡ Some x
found_same {ls} {n} levels up s from to a b less x order within some kept e is =
    let none : s % 2 ^ 0 ≡ 0 = omega arith in
    nearest_same up (slice_range (values ls n) from to) less (b - a) (s % 2 ^ length ls) x (below_is ls n from to (s % 2 ^ length ls) less order within e)
    (not_above_is levels s from to less a b order within kept e) (omega arith) (omega (arith, none))

module _ {ls : List (List Bool)} {n : ℕ} (levels : AreLevels ls n) (s from to : ℕ) (t : Trail) (order : from ≤ to) (within : to ≤ n) (last : t.part.end ≤ t.part.start) (sorted : t.part.start ≤ t.part.end) (kept : t.part.start + final_position ls s to ≡ t.part.end + final_position ls s from)
    (e : t.part.less + count_below ls (s % 2 ^ length ls) from ≡ count_below ls (s % 2 ^ length ls) to) where
  abbrev xs : List ℕ
  xs = slice_range (values ls n) from to

  low : t.part.less ≡ count_by (λ y. ltb y (s % 2 ^ length ls)) xs
  low = below_is ls n from to (s % 2 ^ length ls) t.part.less order within e

  high : t.part.less + (t.part.end - t.part.start) ≡ count_by (λ y. leb y (s % 2 ^ length ls)) xs
  high = not_above_is levels s from to t.part.less t.part.start t.part.end order within kept e

  -- there is none
  pub found_none : (up : Bool) → HasBeside up ls n s from to t → t.beside.start ≡ t.beside.end → nearest up xs (s % 2 ^ length ls) ≡ None
  found_none up l empty = nearest_none up xs t.part.less (s % 2 ^ length ls) low (omega (arith, high, last)) (λ q. omega (arith, rw q at (l.none empty), last, length-part ls n from to order within)) (λ q. rw q at (l.none empty))

  -- it was left beside
  pub found_beside : (up : Bool) (number x : ℕ) → HasBeside up ls n s from to t → t.beside.start < t.beside.end → number + s % 2 ^ (length ls - t.beside.level + 1) ≡ s % 2 ^ length ls
      → IsKthInRange (drop t.beside.level ls) t.beside.start t.beside.end (cond up 0 (t.beside.end - t.beside.start - 1)) x → nearest up xs (s % 2 ^ length ls) ≡ Some (number + bit_value up * 2 ^ (length ls - t.beside.level) + x)
  found_beside up number x l some is kth =
      let i : ℕ = cond up 0 (t.beside.end - t.beside.start - 1) in
      let inside : t.beside.start + i < t.beside.end = grind (arith, some, cases_Bool up) in
      let small : x < 2 ^ (length ls - t.beside.level) = subst (λ (i : ℕ). x < 2 ^ i) (length-drop t.beside.level ls) (kth-lt (drop t.beside.level ls) _ _ _ x kth inside) in
      let element = (kth_is ls n from to _ _ order within).0 ((l.found some number is).each x small kth) in
      let many = count_by-le-length (λ y. leb y (number + bit_value up * 2 ^ (length ls - t.beside.level) + x)) xs in
      nearest_is up xs t.part.less (s % 2 ^ length ls) _ _ low (omega (arith, high, last)) (λ q. grind (arith, q, last, element.more, many)) (λ q. grind (arith, q, (l.some some).2)) (grind (arith, last, cases_Bool up)) (kth_position _ _ _ element)
