-- Trees that are stored, after more is appended.
use Rattle.wavelet_tree.proofs.Names.{◌≡◌, ℕ, ◌+◌, ◌<◌, ◌≤◌, Bool, true, false, leb, List, [], ◌∷◌, length, take, get_or, refl, sym, ap, ◌∙◌, arith, inl, inr, count_by, cases_lt, lt-ltb, le-ltb, lt-leb, le-leb, length-take, sum_by-cons, take-take, get_or-take, count, is_bit, Tree, leaf, fork, depth, forks, lows, highs, weight, IsFork, Stands, Node}

-- a count in a list that another one begins
pub count_begun : (b : Bool) (bits more : List Bool) (i : ℕ) → take (length bits) more ≡ bits → i ≤ length bits → count b more i ≡ count b bits i
unfolding count
count_begun b bits more i begins within =
    ap (λ (l : List Bool). count_by (is_bit b) l) (sym (take-take i (length bits) more within) ∙ ap (λ (l : List Bool). take i l) begins)

pub get_begun : {X : Type 0} (xs more : List X) (i : ℕ) (d : X) → take (length xs) more ≡ xs → i < length xs → get_or more i d ≡ get_or xs i d
get_begun xs more i d begins inside = sym (get_or-take (length xs) more i d inside) ∙ ap (λ l. get_or l i d) begins

pub length_begun : {X : Type 0} (xs more : List X) → take (length xs) more ≡ xs → length xs ≤ length more
length_begun xs more begins = omega (arith, ap length begins, length-take (length xs) more)

-- the bits of a fork are one for each element, and those of its subtrees
pub weight_fork : (m : ℕ) (l r : Tree) (xs : List ℕ) → weight (fork m l r) xs ≡ length xs + weight l (lows m xs) + weight r (highs m xs)
unfolding depth
weight_fork m l r [] = refl
weight_fork m l r (x ∷ xs) =
    let deeper = weight_fork m l r xs in
    let head = sum_by-cons (depth (fork m l r)) x xs in
    elim (cases_lt x m) [
      | inl less ↦
          let low : lows m (x ∷ xs) ≡ x ∷ lows m xs = rw (lt-ltb x m less) refl in
          let high : highs m (x ∷ xs) ≡ highs m xs = rw (lt-leb m x less) refl in
          let deep : depth (fork m l r) x ≡ 1 + depth l x = rw (lt-ltb x m less) refl in
          rw (low, high) (omega (arith, head, deep, sum_by-cons (depth l) x (lows m xs), deeper))
      | inr more ↦
          let low : lows m (x ∷ xs) ≡ lows m xs = rw (le-ltb x m more) refl in
          let high : highs m (x ∷ xs) ≡ x ∷ highs m xs = rw (le-leb m x more) refl in
          let deep : depth (fork m l r) x ≡ 1 + depth r x = rw (le-ltb x m more) refl in
          rw (low, high) (omega (arith, head, deep, sum_by-cons (depth r) x (highs m xs), deeper))
    ]

module _ (starts : List ℕ) (nodes more_nodes : List Node) (bits more_bits : List Bool) (used more_used : ℕ)
    (nodes_begin : take (length nodes) more_nodes ≡ nodes) (bits_begin : take (length bits) more_bits ≡ bits) (within : used ≤ length bits) (up : used ≤ more_used) where
  fork_kept : (m : ℕ) (l r : Tree) (first at start : ℕ) (xs : List ℕ) → IsFork starts nodes bits used m l r first at start xs → IsFork starts more_nodes more_bits more_used m l r first at start xs
  fork_kept m l r first at start xs is =
      let same = λ (d : Node). get_begun nodes more_nodes at d nodes_begin is.inside in
      record {
        inside = omega (arith, is.inside, length_begun nodes more_nodes nodes_begin);
        few = is.few;
        within = omega (arith, is.within, up);
        split_is = λ d. ap (λ (n : Node). n.split) (same d) ∙ is.split_is d;
        low_link = λ d. ap (λ (n : Node). n.low_link) (same d) ∙ is.low_link d;
        high_link = λ d. ap (λ (n : Node). n.high_link) (same d) ∙ is.high_link d;
        low = λ d. rw (count_begun true bits more_bits start bits_begin (omega (arith, is.within, within))) (ap (λ (n : Node). n.low) (same d) ∙ is.low d);
        high = λ d. rw (count_begun true bits more_bits start bits_begin (omega (arith, is.within, within))) (ap (λ (n : Node). n.high) (same d) ∙ is.high d);
        ones = λ i inside.
            count_begun true bits more_bits (start + i) bits_begin (omega (arith, is.within, within, inside))
            ∙ is.ones i inside
            ∙ ap (λ n. n + count_by (λ x. leb m x) (take i xs)) (sym (count_begun true bits more_bits start bits_begin (omega (arith, is.within, within))));
        bit = λ i inside. get_begun bits more_bits (start + i) false bits_begin (omega (arith, is.within, within, inside)) ∙ is.bit i inside;
      }

  -- a tree that is stored still is, after more is appended
  pub stands_kept : (t : Tree) (first start : ℕ) (xs : List ℕ) → Stands t starts nodes bits used first start xs → Stands t starts more_nodes more_bits more_used first start xs
  stands_kept (leaf c) first start xs stands = stands
  stands_kept (fork m l r) first start xs stands = (
    fork_kept m l r first (first + forks l + forks r) start xs stands.0,
    stands_kept l first (start + length xs) (lows m xs) stands.1,
    stands_kept r (first + forks l) (start + length xs + weight l (lows m xs)) (highs m xs) stands.2,
  )
