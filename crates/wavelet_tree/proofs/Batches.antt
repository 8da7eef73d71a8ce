-- Queries that go through a tree together: each moves from state to state, and so do all.
use Rattle.wavelet_tree.proofs.Names.{◌≡◌, ◌≢◌, ℕ, zero, suc, ◌+◌, ◌-◌, ◌^◌, ◌%◌, ◌<◌, ◌≤◌, Bool, true, false, ◌||◌, true≢false, leb, List, [], ◌∷◌, map, length, set, get_or, refl, sym, ap, subst, ◌∙◌, arith, inl, inr, rules, ◌⊎◌, cond, eqb, cases_eq, cases_lt, ne_eqb, eq-eqb, false≢true, get_or_default, get_or-set_same, get_or-set_other, get_or-map, length-map, length-set, count, count_le, Reads, AddsAtMost, IsWithin, no_reads, only_items, only_nodes, plus, times, adds_nothing, adds_then, adds_weaker, within_itself, Symbols, tree_of, depth, sorted_position, word_rank_reads, fork_reads, IsTreeOf, Walks, weight, Become, Node, LEAVES, RangeQuery, IsSortedRange, query_reads, sum_reads, AreUpTo, HasRanks, HasTurned, IsAnswered, IsAsked, IsAtRoot, first_reads}
use Rattle.wavelet_tree.proofs.Walking.{walk_on, walk_inside, walk_ends}
use Rattle.wavelet_tree.proofs.Beginning.{walk_begins, bits_fit}

-- ---- sums of reads

sum_set : (own : List Reads) (k : ℕ) (added next d : Reads) → k < length own → IsWithin (plus (get_or own k d) added) next → IsWithin (plus (sum_reads (λ r. r) own) added) (sum_reads (λ r. r) (set own k next))
unfolding sum_reads
sum_set [] k added next d inside within = absurd (omega (arith, inside))
sum_set (x ∷ own) zero added next d inside within = search (rules, within)
sum_set (x ∷ own) (suc k) added next d inside within = let rest = sum_set own k added next d (omega (arith, inside)) within in search (rules, rest)

pub sum_up : {X : Type 0} (bound : X → Reads) (own : List Reads) (xs : List X) → length own ≡ length xs → ((i : ℕ) (r : Reads) (d : X) → i < length xs → IsWithin (get_or own i r) (bound (get_or xs i d)))
    → IsWithin (sum_reads (λ r. r) own) (sum_reads bound xs)
unfolding sum_reads
sum_up bound [] [] long each = within_itself no_reads
sum_up bound [] (x ∷ xs) long each = absurd (omega (arith, long))
sum_up bound (r ∷ own) [] long each = absurd (omega (arith, long))
sum_up bound (r ∷ own) (x ∷ xs) long each =
    let one = each 0 r x (omega arith) in
    let rest = sum_up bound own xs (omega (arith, long)) (λ i r d inside. each (suc i) r d (omega (arith, inside))) in
    search (rules, one, rest)

-- ---- all queries

-- where the next query meets the later relation, one more does
pub one_more : {Later Earlier : RangeQuery → RangeQuery → Reads → Type 0} {asked now : List RangeQuery} {k : ℕ} {old new next : Reads} (query answer : RangeQuery) (added : Reads)
    → AreUpTo Later Earlier asked now k old new → k < length now → query ≡ get_or now k query → AddsAtMost new next added
    → ((a : RangeQuery) (own : Reads) → Earlier a query own → Later a answer (plus own added)) → AreUpTo Later Earlier asked (set now k answer) (k + 1) old next
one_more {Later} {Earlier} {asked} {now} {k} query answer added are less read adds go =
    let inside : k < length asked = omega (arith, less, are.long) in
    let mine : Reads = get_or are.own k no_reads in
    let before : Earlier (get_or asked k query) query mine = subst (λ (x : RangeQuery). Earlier (get_or asked k query) x mine) (sym read) (are.others k query no_reads (omega arith) inside) in
    let after : Later (get_or asked k query) answer (plus mine added) = go (get_or asked k query) mine before in
    record {
      own = set are.own k (plus mine added);
      long = length-set _ _ _ ∙ are.long;
      own_long = length-set _ _ _ ∙ are.own_long;
      first = λ i q r below within. elim (cases_eq i k) [
        | inl same ↦
            rw (same, get_or-set_same now k answer q less, get_or-set_same are.own k (plus mine added) r (omega (arith, inside, are.own_long)), get_or_default asked k q query inside) after
        | inr other ↦
            rw (get_or-set_other now k i answer q other, get_or-set_other are.own k i (plus mine added) r other) (are.first i q r (omega (arith, below, other)) within)
      ];
      others = λ i q r above within.
          let other : i ≢ k = λ same. omega (arith, above, same) in
          rw (get_or-set_other now k i answer q other, get_or-set_other are.own k i (plus mine added) r other) (are.others i q r (omega (arith, above)) within);
      adds = adds_then are.adds adds (sum_set are.own k added (plus mine added) no_reads (omega (arith, inside, are.own_long)) (within_itself _));
    }

-- also where it is not changed
pub one_stays : {Later Earlier : RangeQuery → RangeQuery → Reads → Type 0} {asked now : List RangeQuery} {k : ℕ} {old new : Reads} (query : RangeQuery)
    → AreUpTo Later Earlier asked now k old new → k < length now → query ≡ get_or now k query
    → ((a : RangeQuery) (own : Reads) → Earlier a query own → Later a query own) → AreUpTo Later Earlier asked now (k + 1) old new
one_stays {Later} {Earlier} {asked} {now} {k} query are less read go =
    let inside : k < length asked = omega (arith, less, are.long) in
    record {
      own = are.own;
      long = are.long;
      own_long = are.own_long;
      first = λ i q r below within. elim (cases_eq i k) [
        | inl same ↦
            let mine : Reads = get_or are.own k r in
            let before : Earlier (get_or asked k query) query mine = subst (λ (x : RangeQuery). Earlier (get_or asked k query) x mine) (sym read) (are.others k query r (omega arith) inside) in
            let is : get_or now k q ≡ query = get_or_default now k q query less ∙ sym read in
            rw (same, is, get_or_default asked k q query inside) (go (get_or asked k query) mine before)
        | inr other ↦ are.first i q r (omega (arith, below, other)) within
      ];
      others = λ i q r above within. are.others i q r (omega (arith, above)) within;
      adds = are.adds;
    }

-- once all meet the later relation, it takes the place of the earlier one
pub all_done : {Later Earlier Next : RangeQuery → RangeQuery → Reads → Type 0} {asked now : List RangeQuery} {k : ℕ} {old new : Reads}
    → AreUpTo Later Earlier asked now k old new → length now ≤ k → AreUpTo Next Later asked now 0 old new
all_done are all = record {
  own = are.own;
  long = are.long;
  own_long = are.own_long;
  first = λ i q r below within. absurd (omega (arith, below));
  others = λ i q r above within. are.first i q r (omega (arith, all, within, are.long)) within;
  adds = are.adds;
}

-- what each query meets besides
all_also : {Later Earlier Next : RangeQuery → RangeQuery → Reads → Type 0} {asked now : List RangeQuery} {old new : Reads} → AreUpTo Later Earlier asked now 0 old new
    → ((i : ℕ) (q a : RangeQuery) (r : Reads) → i < length now → Earlier a (get_or now i q) r → Next a (get_or now i q) r) → AreUpTo Next Next asked now 0 old new
all_also are also = record {
  own = are.own;
  long = are.long;
  own_long = are.own_long;
  first = λ i q r below within. absurd (omega (arith, below));
  others = λ i q r above within. also i q _ _ (omega (arith, within, are.long)) (are.others i q r above within);
  adds = are.adds;
}

-- answered queries have read what they may
pub finished : (symbols : Symbols) {Later : RangeQuery → RangeQuery → Reads → Type 0} (asked now : List RangeQuery) {old new : Reads} → AreUpTo Later (IsAnswered symbols) asked now 0 old new
    → Become (IsSortedRange symbols.items) asked now × AddsAtMost old new (sum_reads (query_reads symbols) asked)
finished symbols asked now are = (
  record { long = are.long; each = λ i q within. (are.others i q no_reads (omega arith) within).answer },
  adds_weaker are.adds (sum_up (query_reads symbols) are.own asked are.own_long (λ i r q within. (are.others i q r (omega arith) within).adds)),
)

-- all are answered where none is at a fork
pub none_walks : {symbols : Symbols} {starts : List ℕ} {nodes : List Node} {bits : List Bool} {turn : ℕ} {Later : RangeQuery → RangeQuery → Reads → Type 0} {asked now : List RangeQuery} {old new : Reads}
    → AreUpTo Later (HasTurned symbols starts nodes bits turn) asked now 0 old new → ((i : ℕ) (q : RangeQuery) → i < length now → LEAVES ≤ (get_or now i q).link)
    → AreUpTo (IsAnswered symbols) (IsAnswered symbols) asked now 0 old new
none_walks are leaf = all_also are (λ i q a r within has. elim has [
  | inl done ↦ done
  | inr walking ↦ absurd (omega (arith, leaf i q within, walking.fork))
])

-- and after as many turns as there are forks
pub no_fork_left : {symbols : Symbols} {starts : List ℕ} {nodes : List Node} {bits : List Bool} {turn : ℕ} {Later : RangeQuery → RangeQuery → Reads → Type 0} {asked now : List RangeQuery} {old new : Reads}
    → length nodes ≤ turn → AreUpTo Later (HasTurned symbols starts nodes bits turn) asked now 0 old new → AreUpTo (IsAnswered symbols) (IsAnswered symbols) asked now 0 old new
no_fork_left all are = all_also are (λ i q a r within has. elim has [
  | inl done ↦ done
  | inr walking ↦ absurd (omega (arith, all, walking.turns))
])

-- ---- whether one is at a fork

pub or_none : (a b : Bool) → (a || b) ≡ false → (a ≡ false) × (b ≡ false)
or_none false b is = (refl, is)
or_none true b is = absurd (true≢false is)

-- the next query of those that came to leaves
pub leaf_more : (now : List RangeQuery) (k : ℕ) (next : RangeQuery) → k < length now → LEAVES ≤ next.link → ((i : ℕ) (q : RangeQuery) → i < k → i < length now → LEAVES ≤ (get_or now i q).link)
    → (i : ℕ) (q : RangeQuery) → i < k + 1 → i < length (set now k next) → LEAVES ≤ (get_or (set now k next) i q).link
leaf_more now k next less leaf before i q below within = elim (cases_eq i k) [
  | inl same ↦ rw (same, get_or-set_same now k next q less) leaf
  | inr other ↦ rw (get_or-set_other now k i next q other) (before i q (omega (arith, below, other)) (omega (arith, within, length-set now k next)))
]

pub leaf_kept : (now : List RangeQuery) (k : ℕ) (d : RangeQuery) → LEAVES ≤ (get_or now k d).link → ((i : ℕ) (q : RangeQuery) → i < k → i < length now → LEAVES ≤ (get_or now i q).link)
    → (i : ℕ) (q : RangeQuery) → i < k + 1 → i < length now → LEAVES ≤ (get_or now i q).link
leaf_kept now k d leaf before i q below within = elim (cases_eq i k) [
  | inl same ↦ rw (same, get_or_default now k q d (omega (arith, same, within))) leaf
  | inr other ↦ before i q (omega (arith, below, other)) within
]

-- before the first turn
pub all_asked : {Later : RangeQuery → RangeQuery → Reads → Type 0} (items : List ℕ) (asked : List RangeQuery) (old : Reads)
    → ((i : ℕ) (q : RangeQuery) → i < length asked → ((get_or asked i q).start ≤ (get_or asked i q).end) × ((get_or asked i q).end ≤ length items))
    → AreUpTo Later (IsAsked items) asked asked 0 old old
all_asked items asked old each = record {
  own = map (λ q. no_reads) asked;
  long = refl;
  own_long = length-map asked (λ q. no_reads);
  first = λ i q r below within. absurd (omega (arith, below));
  others = λ i q r above within. record { same = refl; none = get_or-map (λ q. no_reads) asked i q r within; order = (each i q within).0; within = (each i q within).1 };
  adds = adds_weaker (adds_nothing old) (search rules);
}

-- ---- one query

-- what a bound adds is within the sum
adds_plus : (own added : Reads) → AddsAtMost own (plus own added) added
adds_plus own added = search rules

module _ {symbols : Symbols} {starts : List ℕ} {nodes : List Node} {bits : List Bool} {root width len : ℕ} (is : IsTreeOf symbols starts nodes bits root width len) where
  -- a walk at a leaf is answered
  walk_answers : (a c : RangeQuery) (own : Reads) → LEAVES ≤ c.link → c.symbol ≡ a.symbol → a.start ≢ a.end
      → Walks starts nodes bits (weight (tree_of symbols) symbols.items) false fork_reads a.symbol (depth (tree_of symbols) a.symbol)
      (sorted_position symbols.items a.start a.symbol) (sorted_position symbols.items a.end a.symbol) (only_items 2) own c.link c.start c.end → IsAnswered symbols a c own
  walk_answers a c own leaf symbol some walks =
      let ends = walk_ends starts nodes bits (weight (tree_of symbols) symbols.items) (bits_fit is) false fork_reads a.symbol _ _ _ (only_items 2) leaf walks in
      record {
        leaf = leaf;
        answer = record { symbol = symbol; start = λ more. ends.a_is; end = λ more. ends.b_is; none = λ same. omega (arith, ends.a_is, ends.b_is, same) };
        adds = let all = ends.adds in rw (ne_eqb a.start a.end some) (search (rules, all));
      }

  begins : (a c : RangeQuery) (own : Reads) → own ≡ no_reads → a.start ≤ a.end → a.end ≤ length symbols.items
      → ((LEAVES ≤ c.link) × IsSortedRange symbols.items a c) ⊎ IsAtRoot symbols.items root a c → HasTurned symbols starts nodes bits 0 a c (plus own (first_reads a))
  begins a c own none order within begun = elim begun [
    | inl done ↦ inl (record {
      leaf = done.0;
      answer = done.1;
      adds = elim (cases_eq a.start a.end) [
        | inl same ↦
            let equal = eq-eqb a.start a.end same in
            let nothing : plus own (first_reads a) ≡ no_reads = ap (λ (r : Reads). plus r (first_reads a)) none ∙ ap (λ (b : Bool). plus no_reads (cond b no_reads (only_items 2))) equal in
            subst (λ (r : Reads). IsWithin r (query_reads symbols a)) (sym nothing) (rw equal (within_itself no_reads))
        | inr other ↦
            let unequal = ne_eqb a.start a.end other in
            subst (λ (r : Reads). IsWithin r (query_reads symbols a)) (sym (two unequal)) (rw unequal (search rules))
      ];
    })
    | inr at ↦ subst (λ (r : Reads). HasTurned symbols starts nodes bits 0 a c r) (sym (two (ne_eqb a.start a.end at.some))) (at_root at)
  ]
    where
      two : eqb a.start a.end ≡ false → plus own (first_reads a) ≡ only_items 2
      two unequal = ap (λ (r : Reads). plus r (first_reads a)) none ∙ ap (λ (b : Bool). plus no_reads (cond b no_reads (only_items 2))) unequal

      at_root : IsAtRoot symbols.items root a c → HasTurned symbols starts nodes bits 0 a c (only_items 2)
      at_root at =
          let W : ℕ → ℕ → ℕ → Type 0 = Walks starts nodes bits (weight (tree_of symbols) symbols.items) false fork_reads a.symbol (depth (tree_of symbols) a.symbol)
          (sorted_position symbols.items a.start a.symbol) (sorted_position symbols.items a.end a.symbol) (only_items 2) (only_items 2) in
          let begun : W root a.start a.end = walk_begins is false fork_reads a.symbol a.start a.end (only_items 2) at.occurs (omega (arith, order, within)) within (λ never. absurd (false≢true never)) in
          let walks : W c.link c.start c.end =
          subst (λ (n : ℕ). W n c.start c.end) (sym at.link) (subst (λ (n : ℕ). W root n c.end) (sym at.start) (subst (λ (n : ℕ). W root a.start n) (sym at.end) begun)) in
          elim (cases_lt c.link LEAVES) [
            | inl fork ↦
                let inside = walk_inside starts nodes bits (weight (tree_of symbols) symbols.items) (bits_fit is) false fork_reads a.symbol _ _ _ (only_items 2) fork walks in
                inr (record { fork = fork; turns = omega (arith, inside.0); symbol = at.symbol; some = at.some; walks = walks })
            | inr leaf ↦ inl (walk_answers a c _ leaf at.symbol at.some walks)
          ]

  pub begins_asked : (a q c : RangeQuery) (own : Reads) → IsAsked symbols.items a q own → ((LEAVES ≤ c.link) × IsSortedRange symbols.items q c) ⊎ IsAtRoot symbols.items root q c
      → HasTurned symbols starts nodes bits 0 a c (plus own (first_reads q))
  begins_asked a q c own asked begun =
      subst (λ (x : RangeQuery). HasTurned symbols starts nodes bits 0 a c (plus own (first_reads x))) (sym asked.same)
      (begins a c own asked.none asked.order asked.within (subst (λ (x : RangeQuery). ((LEAVES ≤ c.link) × IsSortedRange symbols.items x c) ⊎ IsAtRoot symbols.items root x c) asked.same begun))

  module _ (turn : ℕ) where
    -- the positions of a query at a fork are among the bits
    pub query_inside : (a c : RangeQuery) (own : Reads) → c.link < LEAVES → HasTurned symbols starts nodes bits turn a c own → (c.start < length bits) × (c.end < length bits)
    query_inside a c own fork has = elim has [
      | inl done ↦ absurd (omega (arith, fork, done.leaf))
      | inr walking ↦
          let inside = walk_inside starts nodes bits (weight (tree_of symbols) symbols.items) (bits_fit is) false fork_reads a.symbol _ _ _ (only_items 2) fork walking.walks in
          (omega (arith, inside.1, is.bits_are), omega (arith, inside.2, is.bits_are))
    ]

    pub gets_ranks : (a c : RangeQuery) (own : Reads) (start_ones end_ones : ℕ) → c.link < LEAVES → start_ones ≡ count true bits c.start → end_ones ≡ count true bits c.end
        → HasTurned symbols starts nodes bits turn a c own → HasRanks symbols starts nodes bits turn a (record c { start_ones = start_ones; end_ones = end_ones }) (plus own (times 2 word_rank_reads))
    gets_ranks a c own start_ones end_ones fork start_is end_is has = elim has [
      | inl done ↦ absurd (omega (arith, fork, done.leaf))
      | inr walking ↦ inr (record {
        before = own;
        walking = record { fork = walking.fork; turns = walking.turns; symbol = walking.symbol; some = walking.some; walks = walking.walks };
        start_ones = start_is;
        end_ones = end_is;
        adds = adds_plus own (times 2 word_rank_reads);
      })
    ]

    pub leaf_ranks : (a c : RangeQuery) (own : Reads) → LEAVES ≤ c.link → HasTurned symbols starts nodes bits turn a c own → HasRanks symbols starts nodes bits turn a c own
    leaf_ranks a c own leaf has = elim has [
      | inl done ↦ inl done
      | inr walking ↦ absurd (omega (arith, leaf, walking.fork))
    ]

    pub leaf_turns : (a c : RangeQuery) (own : Reads) → LEAVES ≤ c.link → HasRanks symbols starts nodes bits turn a c own → HasTurned symbols starts nodes bits (turn + 1) a c own
    leaf_turns a c own leaf has = elim has [
      | inl done ↦ inl done
      | inr ranked ↦ absurd (omega (arith, leaf, ranked.walking.fork))
    ]

    pub ranks_inside : (a c : RangeQuery) (own : Reads) → c.link < LEAVES → HasRanks symbols starts nodes bits turn a c own
        → (c.link < length nodes) × (c.start_ones ≤ c.start) × (c.end_ones ≤ c.end)
    ranks_inside a c own fork has = elim has [
      | inl done ↦ absurd (omega (arith, fork, done.leaf))
      | inr ranked ↦ (omega (arith, ranked.walking.turns), omega (arith, ranked.start_ones, (count_le true bits c.start).0), omega (arith, ranked.end_ones, (count_le true bits c.end).0))
    ]

    -- what a query has at the node below
    pub record GoesBelow (c next : RangeQuery) (node : Node) : Type 0 where
      pub read : node ≡ get_or nodes c.link node
      pub symbol : next.symbol ≡ c.symbol
      pub high_start : leb node.split c.symbol ≡ true → next.start ≡ (c.start_ones + node.high) % 2 ^ 64
      pub low_start : leb node.split c.symbol ≡ false → next.start ≡ (c.start - c.start_ones + node.low) % 2 ^ 64
      pub high_end : leb node.split c.symbol ≡ true → next.end ≡ (c.end_ones + node.high) % 2 ^ 64
      pub low_end : leb node.split c.symbol ≡ false → next.end ≡ (c.end - c.end_ones + node.low) % 2 ^ 64
      pub high_link : leb node.split c.symbol ≡ true → next.link ≡ node.high_link
      pub low_link : leb node.split c.symbol ≡ false → next.link ≡ node.low_link

    pub turns_below : (a c next : RangeQuery) (own : Reads) (node : Node) → c.link < LEAVES → GoesBelow c next node
        → HasRanks symbols starts nodes bits turn a c own → HasTurned symbols starts nodes bits (turn + 1) a next (plus own (only_nodes 1))
    turns_below a c next own node fork goes has = elim has [
      | inl done ↦ absurd (omega (arith, fork, done.leaf))
      | inr ranked ↦
          let on = walk_on starts nodes bits (weight (tree_of symbols) symbols.items) (bits_fit is) false fork_reads a.symbol _ _ _ (only_items 2) fork ranked.walking.walks (record {
            read = goes.read;
            ranked_a = ranked.start_ones;
            ranked_b = ranked.end_ones;
            side = ap (λ s. leb node.split s) ranked.walking.symbol;
            high_a = goes.high_start;
            low_a = goes.low_start;
            high_b = goes.high_end;
            low_b = goes.low_end;
            high_link = goes.high_link;
            low_link = goes.low_link;
            adds = adds_then ranked.adds (adds_plus own (only_nodes 1)) (search rules);
          }) in
          let symbol : next.symbol ≡ a.symbol = goes.symbol ∙ ranked.walking.symbol in
          elim (cases_lt next.link LEAVES) [
            | inl inner ↦ inr (record { fork = inner; turns = omega (arith, on.1 inner, ranked.walking.turns); symbol = symbol; some = ranked.walking.some; walks = on.0 })
            | inr leaf ↦ inl (walk_answers a next _ leaf symbol ranked.walking.some on.0)
          ]
    ]
