-- From one position of a pair a search for an excess that is one less finds the other.
use Rattle.vers_trees.proofs.Names.{◌≡◌, ℕ, ◌+◌, ◌-◌, ◌<◌, ◌≤◌, ◌≢◌, Bool, true, false, List, get_or, pos, negsuc, ◌+ℤ◌, arith, ◌<ℤ◌, ap, ints, excess, IsFirstRiseAfter, IsLastRiseBefore, cases_Bool, eq-or-lt_of_le}
use Rattle.vers_trees.proofs.grammar.Excess.{above_until, above_since, excess-is_walk, excess_after_open, excess_after_close}
use Rattle.vers_trees.proofs.grammar.Paired.{Closes, closes_rises, closes_falls}

pub after_from_closes : (l : List Bool) (v c : ℕ) → Closes l v c → IsFirstRiseAfter l v (negsuc 0) c
after_from_closes l v c p = grind (arith, ints, excess_after_open l v false (omega arith) (closes_rises l v c false p))

pub closes_from_after : (l : List Bool) (v c : ℕ) (d : Bool) → get_or l v d ≡ true → IsFirstRiseAfter l v (negsuc 0) c → Closes l v c
closes_from_after l v c d o p =
    let r = excess_after_open l v d (omega arith) o in
    record {
      after = p.after;
      inside = p.inside;
      back = omega (arith, ints);
      above = λ j x y. above_until (excess l) (excess-is_walk l) (excess l v) (v + 1) j (omega arith) (omega (arith, ints)) (λ k g h e. let at : excess l (k - 1 + 1) ≡ excess l k = ap (excess l) (omega arith) in p.first (k - 1) (omega arith) (omega arith) (omega (arith, ints)));
    }

pub before_from_closes : (l : List Bool) (v c : ℕ) → Closes l v c → IsLastRiseBefore l c (negsuc 0) v
before_from_closes l v c p = grind (arith, ints, excess_after_close l c true p.inside (closes_falls l v c true p))

pub closes_from_before : (l : List Bool) (v c : ℕ) (d : Bool) → get_or l c d ≡ false → IsLastRiseBefore l c (negsuc 0) v → Closes l v c
closes_from_before l v c d o p =
    let i = p.inside in let r = excess_after_close l c d i o in
    record {
      after = p.before;
      inside = i;
      back = omega (arith, ints);
      above = λ j x y. above_since (excess l) (excess-is_walk l) (excess l v) j c y (omega (arith, ints)) (λ k g h e. p.last k (omega arith) h (omega (arith, ints)));
    }

-- ---- the pairs around a node, and what a search backwards from it finds
-- two pairs that overlap are one inside the other
pub nested : (l : List Bool) (v c w d : ℕ) → Closes l v c → Closes l w d → v < w → w ≤ c → d < c
nested l v c w d p q a b = grind (arith, Closes)

-- a pair that opens at or before the end of another and closes past it opens before it
pub opens_around : (l : List Bool) (v c q e : ℕ) → Closes l v c → Closes l q e → q ≤ c → c < e → q < v
opens_around l v c q e p m h x = grind (arith, Closes, nested)

-- a one at or before the position at which a pair closes is before it
pub one_before : (l : List Bool) (v c w : ℕ) → Closes l v c → get_or l w false ≡ true → w ≤ c → w < c
one_before l v c w p b h = grind (arith, ints, closes_falls, eq-or-lt_of_le)

-- t levels up: what the backward search from a node finds is a pair around it
pub record IsAbove (l : List Bool) (v t a : ℕ) : Type 0 where
  pub before : a < v
  pub shallower : excess l a +ℤ pos t ≡ excess l v
  pub close : ℕ
  pub pair : Closes l a close
  pub around : v < close

-- a pair around v opens at or before the parent of v, and where the search finds nothing there is none
pub parent_is_nearest : (l : List Bool) (v p q e : ℕ) → IsAbove l v 1 p → Closes l q e → q < v → v ≤ e → q ≤ p
parent_is_nearest l v p q e a c x y = grind arith

pub no_parent : (l : List Bool) (v q e : ℕ) → ((k : ℕ) → k < v → excess l k ≢ excess l v +ℤ negsuc 0) → Closes l q e → q < v → v ≤ e → ⊥
no_parent l v q e n c x y =
    let h : (excess l v +ℤ negsuc 0) <ℤ excess l q = above_since (excess l) (excess-is_walk l) (excess l v +ℤ negsuc 0) q v (omega arith) (omega (arith, ints)) (λ k u w. n k w) in
    grind (arith, ints)

-- what is two less than before the closing bracket is one less than before the opening one, and before it
pub before_pair : (l : List Bool) (v c : ℕ) → Closes l v c → (k : ℕ) → k < c → excess l k ≡ excess l c +ℤ negsuc 1 → (k < v) × (excess l k ≡ excess l v +ℤ negsuc 0)
before_pair l v c q k x e = grind (arith, ints, eq-or-lt_of_le, excess_after_close l c true q.inside (closes_falls l v c true q))

-- so from the closing bracket two less is found where from the opening one is
pub enclose_at_close : (l : List Bool) (v c p : ℕ) → Closes l v c → IsLastRiseBefore l v (negsuc 0) p → IsLastRiseBefore l c (negsuc 1) p
enclose_at_close l v c p q b =
    let r = excess_after_close l c true q.inside (closes_falls l v c true q) in
    record { before = omega arith; inside = q.inside; sum = omega (arith, ints); last = λ k x y e. let o = before_pair l v c q k y e in b.last k x o.0 o.1 }

-- ---- what is beside a tree, and the first and the last tree inside another
-- the first child opens right after the node
pub first_child_above : (l : List Bool) (v c : ℕ) → Closes l v c → get_or l (v + 1) false ≡ true → IsAbove l (v + 1) 1 v
first_child_above l v c p b = grind (arith, ints, one_before, excess_after_open l v false (omega arith) (closes_rises l v c false p))

-- a node with a child has a closing bracket before its own, that of its last child
pub last_child_closes : (l : List Bool) (v c : ℕ) → Closes l v (c + 1) → v < c → get_or l c false ≡ false
last_child_closes l v c p h =
    grind (arith, ints, excess_after_open, cases_Bool, excess_after_close l (c + 1) false p.inside (closes_falls l v (c + 1) false p))

pub last_child_above : (l : List Bool) (v c w : ℕ) → Closes l v (c + 1) → Closes l w c → v < w → IsAbove l w 1 v
last_child_above l v c w p q h = grind (arith, ints, excess_after_close l (c + 1) false p.inside (closes_falls l v (c + 1) false p))
