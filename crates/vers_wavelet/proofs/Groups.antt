-- Groups of queries that ask a level together.
use Rattle.vers_wavelet.proofs.Names.{◌≡◌, ◌≢◌, ℕ, ◌+◌, ◌-◌, ◌<◌, ◌≤◌, Bool, List, length, get_or, set, get_or-set_same, get_or-set_other, length-set, ◌∙◌, arith, Some, inl, inr, cases_lt, any_default, each_at, select, start, digit, Become, HasPosition, asked}
use Rattle.vers_rank.specs.Batches.{Changed}
use Rattle.vers_wavelet.specs.declared.wavelet.batch.select.SelectQuery.{SelectQuery}
use Rattle.vers_wavelet.specs.declared.wavelet.batch.group.Group.{Group}

-- all items of a list have changed
pub become_changed : {Q : Type 0} {d : Q} {R : Q → Q → Type 0} {n : ℕ} {xs ys : List Q} → Changed d R 0 n xs ys → length xs ≤ n → Become R xs ys
become_changed {Q} {d} {R} {n} {xs} {ys} is all = record {
  long = is.long;
  each = λ p e h. rw (← any_default xs p d e h, ← any_default ys p d e (omega (arith, h, is.long))) (each_at is p (omega arith) (omega arith));
}

-- what was found for a query
pub position_above : {v w : List Bool} {i j : ℕ} {q : SelectQuery} {group : Group} (above p : ℕ) (bit : Bool) → w ≡ v → HasPosition v i q j group
    → above ≡ get_or (asked bit group).numbers (get_or group.slots j 0) 0 → bit ≡ digit q.symbol i → q.answer ≡ Some p → start (digit q.symbol i) w ≤ p
    → above ≡ select (digit q.symbol i) w (p - start (digit q.symbol i) w)
position_above {v} {w} {i} {j} {q} {group} above p bit same has at e some from = grind (arith, asked)

-- one item more has changed
pub changed_item : {Q : Type 0} {d : Q} {R : Q → Q → Type 0} {from n : ℕ} {xs ys : List Q} → Changed d R from n xs ys → from + n < length xs → (y : Q) → R (get_or ys (from + n) d) y
    → Changed d R from (n + 1) xs (set ys (from + n) y)
changed_item {Q} {d} {R} {from} {n} {xs} {ys} is inside y becomes =
    let i : ℕ = from + n in
    let other : (p : ℕ) → p ≢ i → get_or (set ys i y) p d ≡ get_or ys p d = λ p ne. get_or-set_other ys i p y d ne in
    record {
      long = length-set ys i y ∙ is.long;
      each = λ j h. elim (cases_lt j n) [
        | inl lower ↦ rw (other (from + j) (omega arith)) (is.each j lower)
        | inr last ↦ let e : j ≡ n = omega arith in rw (e, get_or-set_same ys i y d (omega (arith, inside, is.long)), ← is.after i (omega arith)) becomes
      ];
      before = λ j h. other j (omega arith) ∙ is.before j h;
      after = λ j h. other j (omega arith) ∙ is.after j (omega arith);
    }
