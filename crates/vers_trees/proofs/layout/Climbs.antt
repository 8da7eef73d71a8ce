-- The steps of a search in a tree of excesses, forwards and backwards.
use Rattle.vers_trees.proofs.Names.{◌≡◌, ℕ, zero, suc, ◌+◌, ◌-◌, ◌*◌, ◌/◌, ◌^◌, ◌<◌, ◌≤◌, Bool, true, false, List, length, get_or, ℤ, ◌+ℤ◌, ◌-ℤ◌, arith, ⊎_elim, subst, ap, FitsSigned, w64, ints, cases_lt, pow-succ', le-mul_of_pos_right, mul-le-mul_right, pow_pos, excess, Node, empty_node, start_of, Covers, IsAbove, IsMinMax, Sought, target, edge, Passed, HasNone, IsAhead, BeginsAt, LeadsTo, PassedTo, IsBeside, near_child, far_child, ComesTo, IsMet, left_past}
use Rattle.vers_trees.proofs.layout.MinMax.{stands_children, parent_of_left, parent_of_right, stands_leaf, leaf_stands, root_stands, total_of_part}
pub use Rattle.vers_trees.proofs.layout.Blocks.{position_in, passed_over, left_fits, too_far, rest_is}

-- the node that a search reaches, a far child, and the position from which it continues after that node's part
record Far (back : Bool) (s : Sought) (first position : ℕ) (left : ℤ) (x : Node) : Type 0 where
  pub start : ℕ
  pub stop : ℕ
  pub stands : IsAbove first position start stop
  pub passed : Passed back s (start_of s.bits s.size (edge back start stop)) left
  pub covers : Covers s.bits s.size start stop x
  pub onward : (rest : ℤ) → Passed back s (start_of s.bits s.size (edge back stop start)) rest → PassedTo back s first ((position - 1) / 2) rest

module _ (s : Sought) (first : ℕ) (nodes : List Node) where
  -- the node at a position covers its part
  covers_at : (i a e : ℕ) (x : Node) → IsMinMax s.bits s.size first nodes → x ≡ get_or nodes i empty_node → IsAbove first i a e → Covers s.bits s.size a e x
  covers_at i a e x m q p = rw q (m.covered i a e (omega arith) p)

  -- what is left past a part is counted from its other end
  remains_past : (back : Bool) (i e : ℕ) (x : Node) (left : ℤ) → Covers s.bits s.size i e x → i ≤ e → Passed back s (start_of s.bits s.size (edge back i e)) left → excess s.bits (start_of s.bits s.size (edge back e i)) +ℤ left_past back left x ≡ target s
  remains_past false i e x left c le p = omega (arith, ints, total_of_part s.bits s.size i e x c le)
  remains_past true i e x left c le p = omega (arith, ints, total_of_part s.bits s.size i e x c le)

  -- ---- going down
  pub left_past_fits : (back : Bool) (position : ℕ) (left : ℤ) (x : Node) → LeadsTo back s first nodes position left → position < first → x ≡ get_or nodes (near_child back position) empty_node → FitsSigned w64 (left_past back left x)
  left_past_fits false position left x p h e = let c = stands_children first position p.start p.stop p.stands h in let k = p.ahead.position in
      left_fits false s (start_of s.bits s.size c.middle) (left -ℤ x.total) k.0 p.tree.short (omega arith) (remains_past false p.start c.middle x left (covers_at _ _ _ x p.tree e c.left) c.after p.ahead.passed) (omega arith) k.3
  left_past_fits true position left x p h e = let c = stands_children first position p.start p.stop p.stands h in let k = p.ahead.position in
      left_fits true s (start_of s.bits s.size c.middle) (left +ℤ x.total) k.0 p.tree.short (omega arith) (remains_past true c.middle p.stop x left (covers_at _ _ _ x p.tree e c.right) c.before p.ahead.passed) (omega arith) k.3

  pub to_near : (back : Bool) (position child : ℕ) (left : ℤ) (x : Node) → LeadsTo back s first nodes position left → position < first → x ≡ get_or nodes (near_child back position) empty_node → child ≡ near_child back position → IsMet back x left → LeadsTo back s first nodes child left
  to_near false position child left x p h e n i =
      let c = stands_children first position p.start p.stop p.stands h in
      rw n (record { tree = p.tree; start = p.start; stop = c.middle; stands = c.left; ahead = record { passed = p.ahead.passed; position = position_in false s _ _ x left (covers_at _ _ _ x p.tree e c.left) c.after p.ahead.passed i } })
  to_near true position child left x p h e n i =
      let c = stands_children first position p.start p.stop p.stands h in
      rw n (record { tree = p.tree; start = c.middle; stop = p.stop; stands = c.right; ahead = record { passed = p.ahead.passed; position = position_in true s _ _ x left (covers_at _ _ _ x p.tree e c.right) c.before p.ahead.passed i } })

  pub to_far : (back : Bool) (position child : ℕ) (left : ℤ) (x : Node) → LeadsTo back s first nodes position left → position < first → x ≡ get_or nodes (near_child back position) empty_node → child ≡ far_child back position → (IsMet back x left → ⊥) → LeadsTo back s first nodes child (left_past back left x)
  to_far false position child left x p h e n o =
      let c = stands_children first position p.start p.stop p.stands h in let k = p.ahead.position in
      let q = passed_over false s p.start c.middle x left (covers_at _ _ _ x p.tree e c.left) c.after p.ahead.passed o in
      let far : start_of s.bits s.size c.middle ≤ k.0 = grind (arith, ints) in
      rw n (record { tree = p.tree; start = c.middle; stop = p.stop; stands = c.right; ahead = record { passed = q; position = (k.0, far, k.2, k.3) } })
  to_far true position child left x p h e n o =
      let c = stands_children first position p.start p.stop p.stands h in let k = p.ahead.position in
      let q = passed_over true s c.middle p.stop x left (covers_at _ _ _ x p.tree e c.right) c.before p.ahead.passed o in
      let far : k.0 < start_of s.bits s.size c.middle = grind (arith, ints) in
      rw n (record { tree = p.tree; start = p.start; stop = c.middle; stands = c.left; ahead = record { passed = q; position = (k.0, k.1, far, k.3) } })

  pub at_leaf : (back : Bool) (position : ℕ) (left : ℤ) → LeadsTo back s first nodes position left → first ≤ position → IsAhead back s (position - first) (position - first + 1) left
  at_leaf back position left p h =
      let l = leaf_stands first position p.start p.stop p.stands h in
      subst (λ (n : ℕ). IsAhead back s n (position - first + 1) left) l.0 (subst (λ (n : ℕ). IsAhead back s p.start n left) (omega arith) p.ahead)

  -- ---- climbing, past the far children that the passed part ends with
  comes_to : (back : Bool) (position : ℕ) (left : ℤ) (next : ℕ) → IsMinMax s.bits s.size first nodes → PassedTo back s first position left → IsBeside back position next → ComesTo back s first nodes next left
  comes_to false position left next m p o = go o.zeros position p o.splits
    where
      go : (k position : ℕ) → PassedTo false s first position left → position + 2 ≡ (next + 1) * 2 ^ k → ComesTo false s first nodes next left
      go zero position p e = record { tree = m; far = λ some. omega arith; passed = λ some. subst (λ (n : ℕ). PassedTo false s first n left) (omega arith) p; none = λ z. absurd (omega arith) }
      go (suc k) position p e =
          let most = le-mul_of_pos_right (next + 1) (pow_pos k) in
          let twice : (next + 1) * 2 ^ suc k ≡ (next + 1) * (2 * 2 ^ k) = ap (λ (x : ℕ). (next + 1) * x) (pow-succ' 2 k) in
          ⊎_elim
          (λ (root : position < 1).
          let r = root_stands first p.start p.stop (subst (λ (n : ℕ). IsAbove first n p.start p.stop) (omega arith) p.stands) in
          let all : start_of s.bits s.size p.stop ≡ length s.bits = (rw r.1 (omega arith)) in
          record { tree = m; far = λ some. absurd (omega arith); passed = λ some. absurd (omega arith); none = λ z k a b. p.passed.none k (a, omega arith) })
          (λ (some : 1 ≤ position).
          let here : position ≡ 2 * ((position - 1) / 2) + 2 = omega arith in
          let u = parent_of_right first ((position - 1) / 2) p.start p.stop (subst (λ (n : ℕ). IsAbove first n p.start p.stop) here p.stands) in
          go k ((position - 1) / 2) (record { start = u.0; stop = p.stop; stands = u.1; passed = p.passed }) (omega arith))
          (cases_lt position 1)
  comes_to true position left next m p b = rw b.2 (go b.1.zeros position p b.1.splits)
    where
      go : (k position : ℕ) → PassedTo true s first position left → position + 1 ≡ b.0 * 2 ^ k → ComesTo true s first nodes (b.0 - 2) left
      go zero position p e =
          record {
            tree = m;
            far = λ some. omega arith;
            passed = λ some. subst (λ (n : ℕ). PassedTo true s first n left) (omega arith) p;
            none = λ z k a.
                let r = root_stands first p.start p.stop (subst (λ (n : ℕ). IsAbove first n p.start p.stop) (let g : position ≡ 0 = omega arith in g) p.stands) in
                let all : start_of s.bits s.size p.start ≡ 0 = rw r.0 (omega arith) in p.passed.none k (omega arith, a);
          }
      go (suc k) position p e =
          let twice : b.0 * 2 ^ suc k ≡ b.0 * (2 * 2 ^ k) = ap (λ (x : ℕ). b.0 * x) (pow-succ' 2 k) in
          let here : position ≡ 2 * ((position - 1) / 2) + 1 = omega arith in
          let u = parent_of_left first ((position - 1) / 2) p.start p.stop (subst (λ (n : ℕ). IsAbove first n p.start p.stop) here p.stands) in
          go k ((position - 1) / 2) (record { start = p.start; stop = u.0; stands = u.1; passed = p.passed }) (omega arith)

  -- from a block on
  pub begin_within : (back : Bool) (begin : ℕ) (left : ℤ) → BeginsAt back s first nodes begin left → begin ≤ first
  begin_within back begin left b = grind (arith, ints, mul-le-mul_right)

  pub comes_from : (back : Bool) (begin : ℕ) (left : ℤ) (next : ℕ) → BeginsAt back s first nodes begin left → IsBeside back (first + begin) next → ComesTo back s first nodes next left
  comes_from back begin left next b o = comes_to back (first + begin) left next b.tree (record { start = begin; stop = begin + 1; stands = stands_leaf first b.tree.height begin b.tree.levels (begin_within back begin left b); passed = b.passed }) o

  -- ---- beside the passed part
  far_of : (back : Bool) (position : ℕ) (left : ℤ) (x : Node) → ComesTo back s first nodes position left → 0 < position → x ≡ get_or nodes position empty_node → Far back s first position left x
  far_of false position left x c some e =
      let v = c.far some in let p = c.passed some in let here : position - 1 ≡ 2 * ((position - 1) / 2) + 1 = omega arith in
      let at : 2 * ((position - 1) / 2) + 2 ≡ position = omega arith in
      let u = parent_of_left first ((position - 1) / 2) p.start p.stop (subst (λ (n : ℕ). IsAbove first n p.start p.stop) here p.stands) in
      let t : IsAbove first position p.stop u.0 = subst (λ (n : ℕ). IsAbove first n p.stop u.0) at u.2 in
      record { start = p.stop; stop = u.0; stands = t; passed = p.passed; covers = covers_at position p.stop u.0 x c.tree e t; onward = λ rest q. record { start = p.start; stop = u.0; stands = u.1; passed = q } }
  far_of true position left x c some e =
      let v = c.far some in let p = c.passed some in let here : position + 1 ≡ 2 * ((position - 1) / 2) + 2 = omega arith in
      let at : 2 * ((position - 1) / 2) + 1 ≡ position = omega arith in
      let u = parent_of_right first ((position - 1) / 2) p.start p.stop (subst (λ (n : ℕ). IsAbove first n p.start p.stop) here p.stands) in
      let t : IsAbove first position u.0 p.start = subst (λ (n : ℕ). IsAbove first n u.0 p.start) at u.2 in
      record { start = u.0; stop = p.start; stands = t; passed = p.passed; covers = covers_at position u.0 p.start x c.tree e t; onward = λ rest q. record { start = u.0; stop = p.stop; stands = u.1; passed = q } }

  module _ (back : Bool) (position : ℕ) (left : ℤ) (x : Node) (c : ComesTo back s first nodes position left) (some : 0 < position) (e : x ≡ get_or nodes position empty_node) where
    far : Far back s first position left x
    far = far_of back position left x c some e

    within : far.start ≤ far.stop
    within = grind (arith, ints, first, pow_pos)

    pub goes_down : IsMet back x left → LeadsTo back s first nodes position left
    goes_down i = record { tree = c.tree; start = far.start; stop = far.stop; stands = far.stands; ahead = record { passed = far.passed; position = position_in back s far.start far.stop x left far.covers within far.passed i } }

    pub goes_on : (next : ℕ) → (IsMet back x left → ⊥) → IsBeside back ((position - 1) / 2) next → ComesTo back s first nodes next (left_past back left x)
    goes_on next misses o = comes_to back ((position - 1) / 2) (left_past back left x) next c.tree (far.onward (left_past back left x) (passed_over back s far.start far.stop x left far.covers within far.passed misses)) o

    -- where what would be left is too long for a number
    pub ends_there : (FitsSigned w64 (left_past back left x) → ⊥) → HasNone back s
    ends_there long = too_far back s _ (start_of s.bits s.size (edge back far.stop far.start)) left (left_past back left x) c.tree.short far.passed (omega arith) (remains_past back far.start far.stop x left far.covers within far.passed) long
