-- Walks from the root of a stored tree to a leaf.
use Rattle.wavelet_tree.proofs.Names.{◌≡◌, ℕ, zero, suc, ◌+◌, ◌-◌, ◌^◌, ◌%◌, ◌<◌, ◌≤◌, Bool, true, false, cond, ltb, leb, eqb, List, length, take, get_or, refl, sym, ap, ◌∙◌, subst, arith, inl, inr, rules, filter, count_by, All, cases_lt, cases_eq, lt-ltb, le-ltb, lt-leb, le-leb, eqb-true, eq-eqb, ne_eqb, get_or_default, length-take, length-filter, All-take, sum_by-take-le, count, count_le, AddsAtMost, Reads, times, adds_then, Tree, leaf, fork, depth, forks, shift, link, entry, lows, highs, weight, Stands, no_node, led, Walks, WalksIn, Node, LEAVES}
use Rattle.wavelet_tree.proofs.Lists.{count_kept, count_first, count_first_sides, kept_at, kept_inside, count_none, count_all, shifted}

-- the only symbol of elements, one of which is a symbol
pub only_one : (c s : ℕ) (xs : List ℕ) → All (λ x. x ≡ c) xs → 0 < count_by (λ x. eqb x s) xs → s ≡ c
only_one c s xs all some = elim (cases_eq s c) [
  | inl same ↦ same
  | inr other ↦ absurd (omega (arith, some, count_none (λ x. eqb x s) xs (λ k d inside. ne_eqb _ s (λ same. other (sym same ∙ all k d inside)))))
]

few_kept : (p : ℕ → Bool) (xs : List ℕ) (i : ℕ) → count_by p (take i xs) ≤ length (filter p xs)
few_kept p xs i = omega (arith, length-filter p xs, sum_by-take-le (λ x. cond (p x) 1 0) xs i)

is_low : (m s x : ℕ) → s < m → eqb x s ≡ true → ltb x m ≡ true
is_low m s x less same = lt-ltb x m (omega (arith, less, eqb-true x s same))

is_high : (m s x : ℕ) → m ≤ s → eqb x s ≡ true → leb m x ≡ true
is_high m s x more same = le-leb m x (omega (arith, more, eqb-true x s same))

module _ (starts : List ℕ) (nodes : List Node) (bits : List Bool) (used : ℕ) (fits : used < 2 ^ 64) where
  -- the positions of a tree are machine words
  position_fits : (t : Tree) (first start : ℕ) (xs : List ℕ) → Stands t starts nodes bits used first start xs → entry t starts start + length xs < 2 ^ 64
  position_fits (leaf c) first start xs stands = stands.1
  position_fits (fork m l r) first start xs stands = omega (arith, stands.0.within, fits)

  -- ---- one fork

  module _ (m : ℕ) (l r : Tree) (first start : ℕ) (xs : List ℕ) (stands : Stands (fork m l r) starts nodes bits used first start xs)
      (node : Node) (read : node ≡ get_or nodes (first + forks l + forks r) node) (i ones : ℕ) (within : i ≤ length xs) (ranked : ones ≡ count true bits (start + i)) where
    low_position : (start + i - ones + node.low) % 2 ^ 64 ≡ entry l starts (start + length xs) + count_by (λ x. ltb x m) (take i xs)
    low_position =
        let before : ℕ = count true bits start in
        let some = count_le true bits start in
        let all = stands.0.ones i within in
        let both = count_first_sides m xs i within in
        let few = few_kept (λ x. ltb x m) xs i in
        let room = position_fits l first (start + length xs) (lows m xs) stands.1 in
        let shift_is : node.low ≡ shift (entry l starts (start + length xs)) (start - before) = ap (λ (n : Node). n.low) read ∙ stands.0.low node in
        rw shift_is (shifted (entry l starts (start + length xs)) (start - before) (start + i - ones) (omega (arith, some.0, all, ranked, both)) (omega (arith, room)) (omega (arith, stands.0.within, fits))
        (omega (arith, some.0, all, ranked, both, few, room))
        ∙ omega (arith, some.0, all, ranked, both))

    high_position : (ones + node.high) % 2 ^ 64 ≡ entry r starts (start + length xs + weight l (lows m xs)) + count_by (λ x. leb m x) (take i xs)
    high_position =
        let before : ℕ = count true bits start in
        let some = count_le true bits start in
        let all = stands.0.ones i within in
        let few = few_kept (λ x. leb m x) xs i in
        let room = position_fits r (first + forks l) (start + length xs + weight l (lows m xs)) (highs m xs) stands.2 in
        let shift_is : node.high ≡ shift (entry r starts (start + length xs + weight l (lows m xs))) before = ap (λ (n : Node). n.high) read ∙ stands.0.high node in
        rw shift_is (shifted (entry r starts (start + length xs + weight l (lows m xs))) before ones (omega (arith, all, ranked)) (omega (arith, room)) (omega (arith, some.0, stands.0.within, fits))
        (omega (arith, all, ranked, few, room))
        ∙ omega (arith, all, ranked))

  -- a link to a fork leads down
  link_less : (t : Tree) (first own : ℕ) → first + forks t ≤ own → link t first < LEAVES → link t first < own
  unfolding forks
  link_less (leaf c) first own within few = absurd (omega (arith, few))
  link_less (fork m l r) first own within few = omega (arith, within)

  -- ---- a walk

  module _ (here : Bool) (each : Reads) (s all goal other : ℕ) (old : Reads) where
    -- what is read at a fork, and the fork at which the walk continues
    pub record Goes (new next : Reads) (at a b : ℕ) (node : Node) (ones_a ones_b : ℕ) (high : Bool) (at' a' b' : ℕ) : Type 0 where
      pub read : node ≡ get_or nodes at node
      pub ranked_a : ones_a ≡ count true bits a
      pub ranked_b : ones_b ≡ count true bits b
      pub side : high ≡ leb node.split s
      pub high_a : high ≡ true → a' ≡ (ones_a + node.high) % 2 ^ 64
      pub low_a : high ≡ false → a' ≡ (a - ones_a + node.low) % 2 ^ 64
      pub high_b : high ≡ true → b' ≡ (ones_b + node.high) % 2 ^ 64
      pub low_b : high ≡ false → b' ≡ (b - ones_b + node.low) % 2 ^ 64
      pub high_link : high ≡ true → at' ≡ node.high_link
      pub low_link : high ≡ false → at' ≡ node.low_link
      pub adds : AddsAtMost new next each

    goes_low : (m : ℕ) (l r : Tree) {new next : Reads} {at a b : ℕ} {node : Node} {ones_a ones_b : ℕ} {high : Bool} {at' a' b' : ℕ}
        → s < m → high ≡ false → WalksIn (fork m l r) starts nodes bits used here each s all goal other old new at a b → Goes new next at a b node ones_a ones_b high at' a' b' → WalksIn l starts nodes bits used here each s all goal other old next at' a' b'
    unfolding depth
    goes_low m l r {node = node} {ones_a = ones_a} {ones_b = ones_b} less is_low_side w step =
        let at_node : node ≡ get_or nodes (w.first + forks l + forks r) node = step.read ∙ ap (λ n. get_or nodes n node) w.link_is in
        let position_a = low_position m l r w.first w.start w.xs w.stands node at_node w.i ones_a w.i_within (step.ranked_a ∙ ap (λ n. count true bits n) w.a_is) in
        let position_b = low_position m l r w.first w.start w.xs w.stands node at_node w.j ones_b w.j_within (step.ranked_b ∙ ap (λ n. count true bits n) w.b_is) in
        let deep : depth (fork m l r) s ≡ 1 + depth l s = rw (lt-ltb s m less) refl in
        record {
          first = w.first;
          start = w.start + length w.xs;
          xs = lows m w.xs;
          i = count_by (λ x. ltb x m) (take w.i w.xs);
          j = count_by (λ x. ltb x m) (take w.j w.xs);
          steps = w.steps + 1;
          stands = w.stands.1;
          link_is = step.low_link is_low_side ∙ ap (λ (n : Node). n.low_link) at_node ∙ w.stands.0.low_link node;
          a_is = step.low_a is_low_side ∙ ap (λ n. (n - ones_a + node.low) % 2 ^ 64) w.a_is ∙ position_a;
          b_is = step.low_b is_low_side ∙ ap (λ n. (n - ones_b + node.low) % 2 ^ 64) w.b_is ∙ position_b;
          i_within = few_kept (λ x. ltb x m) w.xs w.i;
          j_within = few_kept (λ x. ltb x m) w.xs w.j;
          occurs = omega (arith, w.occurs, count_kept (λ x. ltb x m) (λ x. eqb x s) (λ x same. is_low m s x less same) w.xs);
          goal_is = omega (arith, w.goal_is, count_first (λ x. ltb x m) (λ x. eqb x s) (λ x same. is_low m s x less same) w.xs w.i);
          other_is = omega (arith, w.other_is, count_first (λ x. ltb x m) (λ x. eqb x s) (λ x same. is_low m s x less same) w.xs w.j);
          steps_are = omega (arith, w.steps_are, deep);
          adds = adds_then w.adds step.adds (search rules);
          at_symbol = λ asked.
              let found = w.at_symbol asked in
              let passes : ltb (get_or w.xs w.i 0) m ≡ true = lt-ltb _ m (omega (arith, found.1, less)) in
              (kept_inside (λ x. ltb x m) w.xs w.i 0 found.0 passes, kept_at (λ x. ltb x m) w.xs w.i 0 found.0 passes ∙ found.1);
        }

    goes_high : (m : ℕ) (l r : Tree) {new next : Reads} {at a b : ℕ} {node : Node} {ones_a ones_b : ℕ} {high : Bool} {at' a' b' : ℕ}
        → m ≤ s → high ≡ true → WalksIn (fork m l r) starts nodes bits used here each s all goal other old new at a b → Goes new next at a b node ones_a ones_b high at' a' b' → WalksIn r starts nodes bits used here each s all goal other old next at' a' b'
    unfolding depth
    goes_high m l r {node = node} {ones_a = ones_a} {ones_b = ones_b} more is_high_side w step =
        let at_node : node ≡ get_or nodes (w.first + forks l + forks r) node = step.read ∙ ap (λ n. get_or nodes n node) w.link_is in
        let position_a = high_position m l r w.first w.start w.xs w.stands node at_node w.i ones_a w.i_within (step.ranked_a ∙ ap (λ n. count true bits n) w.a_is) in
        let position_b = high_position m l r w.first w.start w.xs w.stands node at_node w.j ones_b w.j_within (step.ranked_b ∙ ap (λ n. count true bits n) w.b_is) in
        let deep : depth (fork m l r) s ≡ 1 + depth r s = rw (le-ltb s m more) refl in
        record {
          first = w.first + forks l;
          start = w.start + length w.xs + weight l (lows m w.xs);
          xs = highs m w.xs;
          i = count_by (λ x. leb m x) (take w.i w.xs);
          j = count_by (λ x. leb m x) (take w.j w.xs);
          steps = w.steps + 1;
          stands = w.stands.2;
          link_is = step.high_link is_high_side ∙ ap (λ (n : Node). n.high_link) at_node ∙ w.stands.0.high_link node;
          a_is = step.high_a is_high_side ∙ position_a;
          b_is = step.high_b is_high_side ∙ position_b;
          i_within = few_kept (λ x. leb m x) w.xs w.i;
          j_within = few_kept (λ x. leb m x) w.xs w.j;
          occurs = omega (arith, w.occurs, count_kept (λ x. leb m x) (λ x. eqb x s) (λ x same. is_high m s x more same) w.xs);
          goal_is = omega (arith, w.goal_is, count_first (λ x. leb m x) (λ x. eqb x s) (λ x same. is_high m s x more same) w.xs w.i);
          other_is = omega (arith, w.other_is, count_first (λ x. leb m x) (λ x. eqb x s) (λ x same. is_high m s x more same) w.xs w.j);
          steps_are = omega (arith, w.steps_are, deep);
          adds = adds_then w.adds step.adds (search rules);
          at_symbol = λ asked.
              let found = w.at_symbol asked in
              let passes : leb m (get_or w.xs w.i 0) ≡ true = le-leb m _ (omega (arith, found.1, more)) in
              (kept_inside (λ x. leb m x) w.xs w.i 0 found.0 passes, kept_at (λ x. leb m x) w.xs w.i 0 found.0 passes ∙ found.1);
        }

    goes_in : (tree : Tree) {new next : Reads} {at a b : ℕ} {node : Node} {ones_a ones_b : ℕ} {high : Bool} {at' a' b' : ℕ}
        → at < LEAVES → WalksIn tree starts nodes bits used here each s all goal other old new at a b → Goes new next at a b node ones_a ones_b high at' a' b'
        → Walks starts nodes bits used here each s all goal other old next at' a' b' × (at' < LEAVES → at' < at)
    unfolding forks
    goes_in (leaf c) few w step = absurd (omega (arith, few, w.link_is))
    goes_in (fork m l r) {node = node} {at' = at'} few w step =
        let at_node : node ≡ get_or nodes (w.first + forks l + forks r) node = step.read ∙ ap (λ n. get_or nodes n node) w.link_is in
        let split_is : node.split ≡ m = ap (λ (n : Node). n.split) at_node ∙ w.stands.0.split_is node in
        elim (cases_lt s m) [
          | inl less ↦
              let side = step.side ∙ lt-leb node.split s (omega (arith, less, split_is)) in
              let on = goes_low m l r less side w step in
              let to : at' ≡ link l w.first = step.low_link side ∙ ap (λ (n : Node). n.low_link) at_node ∙ w.stands.0.low_link node in
              ((l, on), λ inner. omega (arith, to, w.link_is, link_less l w.first (w.first + forks l + forks r) (omega arith) (omega (arith, inner, to))))
          | inr more ↦
              let side = step.side ∙ le-leb node.split s (omega (arith, more, split_is)) in
              let on = goes_high m l r more side w step in
              let to : at' ≡ link r (w.first + forks l) = step.high_link side ∙ ap (λ (n : Node). n.high_link) at_node ∙ w.stands.0.high_link node in
              ((r, on), λ inner. omega (arith, to, w.link_is, link_less r (w.first + forks l) (w.first + forks l + forks r) (omega arith) (omega (arith, inner, to))))
        ]

    -- a walk continues at a fork, to a link before the fork's or to a leaf
    pub walk_on : {new next : Reads} {at a b : ℕ} {node : Node} {ones_a ones_b : ℕ} {high : Bool} {at' a' b' : ℕ}
        → at < LEAVES → Walks starts nodes bits used here each s all goal other old new at a b → Goes new next at a b node ones_a ones_b high at' a' b'
        → Walks starts nodes bits used here each s all goal other old next at' a' b' × (at' < LEAVES → at' < at)
    walk_on few w step = goes_in w.0 few w.1 step

    inside_in : (tree : Tree) {new : Reads} {at a b : ℕ} → at < LEAVES → WalksIn tree starts nodes bits used here each s all goal other old new at a b → (at < length nodes) × (a ≤ used) × (b ≤ used)
    inside_in (leaf c) few w = absurd (omega (arith, few, w.link_is))
    inside_in (fork m l r) few w = (omega (arith, w.link_is, w.stands.0.inside), omega (arith, w.a_is, w.i_within, w.stands.0.within), omega (arith, w.b_is, w.j_within, w.stands.0.within))

    -- there is a node, and the positions are among the bits
    pub walk_inside : {new : Reads} {at a b : ℕ} → at < LEAVES → Walks starts nodes bits used here each s all goal other old new at a b → (at < length nodes) × (a ≤ used) × (b ≤ used)
    walk_inside few w = inside_in w.0 few w.1

    -- the bit at a position determines on which side of a fork the symbol is
    side_in : (tree : Tree) {new : Reads} {at a b : ℕ} (node : Node) → at < LEAVES → WalksIn tree starts nodes bits used here each s all goal other old new at a b → here ≡ true
        → node ≡ get_or nodes at node → get_or bits a false ≡ leb node.split s
    side_in (leaf c) node few w asked read = absurd (omega (arith, few, w.link_is))
    side_in (fork m l r) node few w asked read =
        let found = w.at_symbol asked in
        let at_node : node ≡ get_or nodes (w.first + forks l + forks r) node = read ∙ ap (λ n. get_or nodes n node) w.link_is in
        let split_is : node.split ≡ m = ap (λ (n : Node). n.split) at_node ∙ w.stands.0.split_is node in
        ap (λ n. get_or bits n false) w.a_is ∙ w.stands.0.bit w.i found.0 ∙ ap (λ n. leb m n) found.1 ∙ ap (λ n. leb n s) (sym split_is)

    pub walk_side : {new : Reads} {at a b : ℕ} (node : Node) → at < LEAVES → Walks starts nodes bits used here each s all goal other old new at a b → here ≡ true
        → node ≡ get_or nodes at node → get_or bits a false ≡ leb node.split s
    walk_side node few w asked read = side_in w.0 node few w.1 asked read

    -- at a leaf the positions are the goals
    pub record Ends (new : Reads) (at a b : ℕ) : Type 0 where
      pub a_is : a ≡ goal
      pub b_is : b ≡ other
      pub symbol_is : at ≡ LEAVES + s
      pub adds : AddsAtMost old new (times all each)

    ends_in : (tree : Tree) {new : Reads} {at a b : ℕ} → LEAVES ≤ at → WalksIn tree starts nodes bits used here each s all goal other old new at a b → Ends new at a b
    unfolding depth
    ends_in (leaf c) {new = new} many w =
        let same : s ≡ c = only_one c s w.xs w.stands.0 w.occurs in
        let counted = λ (n : ℕ). count_all (λ x. eqb x s) (take n w.xs) (λ k d inside. eq-eqb _ s (All-take (λ x. x ≡ c) n w.xs w.stands.0 k d inside ∙ sym same)) ∙ length-take n w.xs in
        let first : get_or starts s 0 ≡ get_or starts c 0 = ap (λ n. get_or starts n 0) same in
        let steps : w.steps ≡ all = omega (arith, w.steps_are) in
        record {
          a_is = omega (arith, w.a_is, w.goal_is, counted w.i, w.i_within, first);
          b_is = omega (arith, w.b_is, w.other_is, counted w.j, w.j_within, first);
          symbol_is = omega (arith, w.link_is, same);
          adds = let P : ℕ → Type 0 = λ n. AddsAtMost old new (times n each) in subst P steps w.adds;
        }
    ends_in (fork m l r) many w = absurd (omega (arith, many, w.link_is, w.stands.0.few))

    pub walk_ends : {new : Reads} {at a b : ℕ} → LEAVES ≤ at → Walks starts nodes bits used here each s all goal other old new at a b → Ends new at a b
    walk_ends many w = ends_in w.0 many w.1

  -- ---- the symbol at a position

  pub led_at : (n : ℕ) (t : Tree) (first start : ℕ) (xs : List ℕ) (i : ℕ) → forks t ≤ n → Stands t starts nodes bits used first start xs → i < length xs → led n nodes bits (link t first) (entry t starts start + i) ≡ get_or xs i 0
  unfolding led forks
  led_at zero (leaf c) first start xs i few stands inside = omega (arith, stands.0 i 0 inside)
  led_at (suc n) (leaf c) first start xs i few stands inside = rw (le-leb LEAVES (LEAVES + c) (omega arith)) (omega (arith, stands.0 i 0 inside))
  led_at zero (fork m l r) first start xs i few stands inside = absurd (omega (arith, few))
  led_at (suc n) (fork m l r) first start xs i few stands inside =
      let own : ℕ = first + forks l + forks r in
      let node : Node = get_or nodes own no_node in
      let ones : ℕ = count true bits (start + i) in
      let within : i ≤ length xs = omega (arith, inside) in
      let read : node ≡ get_or nodes own node = get_or_default nodes own no_node node stands.0.inside in
      let inner = lt-leb LEAVES own stands.0.few in
      elim (cases_lt (get_or xs i 0) m) [
        | inl less ↦
            let bit = stands.0.bit i inside ∙ lt-leb m (get_or xs i 0) less in
            let passes = lt-ltb (get_or xs i 0) m less in
            let position = low_position m l r first start xs stands node read i ones within refl in
            rw (inner, bit, position, stands.0.low_link no_node)
            (led_at n l first (start + length xs) (lows m xs) (count_by (λ x. ltb x m) (take i xs)) (omega (arith, few)) stands.1 (kept_inside (λ x. ltb x m) xs i 0 inside passes)
            ∙ kept_at (λ x. ltb x m) xs i 0 inside passes)
        | inr more ↦
            let bit = stands.0.bit i inside ∙ le-leb m (get_or xs i 0) more in
            let passes = le-leb m (get_or xs i 0) more in
            let position = high_position m l r first start xs stands node read i ones within refl in
            rw (inner, bit, position, stands.0.high_link no_node)
            (led_at n r (first + forks l) (start + length xs + weight l (lows m xs)) (highs m xs) (count_by (λ x. leb m x) (take i xs)) (omega (arith, few)) stands.2 (kept_inside (λ x. leb m x) xs i 0 inside passes)
            ∙ kept_at (λ x. leb m x) xs i 0 inside passes)
      ]

-- the measure of a walk: a link to a fork, or none
pub smaller : (next at : ℕ) → at < LEAVES → (next < LEAVES → next < at) → cond (ltb next LEAVES) (next + 1) 0 < cond (ltb at LEAVES) (at + 1) 0
smaller next at few less = elim (cases_lt next LEAVES) [
  | inl inner ↦ rw (lt-ltb next LEAVES inner, lt-ltb at LEAVES few) (omega (arith, less inner))
  | inr outer ↦ rw (le-ltb next LEAVES outer, lt-ltb at LEAVES few) (omega arith)
]
