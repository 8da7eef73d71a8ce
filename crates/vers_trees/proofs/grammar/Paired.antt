-- The pairs of a forest are the positions between which the excess stays above where it began.
use Rattle.vers_trees.proofs.Names.{◌≡◌, ℕ, zero, suc, ◌+◌, ◌-◌, ◌<◌, ◌≤◌, ◌⊎◌, inl, inr, Bool, true, false, List, ◌∷◌, ◌++◌, length, get_or, pos, ◌+ℤ◌, ◌≤ℤ◌, ◌<ℤ◌, arith, length-append, ⊎_elim, subst, sym, refl, ap, ◌∙◌, ints, cases_lt, cases_order, get_or_append_left, get_or_at, get_or-append-add, excess, Forest, none, tree, text}
use Rattle.vers_trees.proofs.grammar.Excess.{excess-zero, excess-nil, excess-cons, excess-append_left, excess-append_right, open_from_rise, close_from_fall}

-- v opens and c closes one tree of the forest
abbrev pub Paired : Forest → ℕ → ℕ → Type 0
Paired none v c = ⊥
Paired (tree X Y) v c =
    ((v ≡ 0) × (c ≡ length (text X) + 1))
    ⊎ (((x : ℕ) × (y : ℕ) × (v ≡ x + 1) × (c ≡ y + 1) × Paired X x y)
    ⊎ ((x : ℕ) × (y : ℕ) × (v ≡ length (text X) + 2 + x) × (c ≡ length (text X) + 2 + y) × Paired Y x y))

-- from v on the excess is above what it is before v, up to c, after which it is that again
pub record Closes (l : List Bool) (v c : ℕ) : Type 0 where
  pub after : v < c
  pub inside : c < length l
  pub back : excess l (c + 1) ≡ excess l v
  pub above : (j : ℕ) → v < j → j ≤ c → excess l v <ℤ excess l j

pub length-tree : (X Y : Forest) → length (text (tree X Y)) ≡ length (text X) + length (text Y) + 2
length-tree X Y = grind (arith, ints, length-append)

-- inside the first tree
pub excess_in_first : (X Y : Forest) (i : ℕ) → i ≤ length (text X) → excess (text (tree X Y)) (i + 1) ≡ excess (text X) i +ℤ pos 1
excess_in_first X Y i h = grind (arith, ints, excess-append_left, excess-cons true (text X ++ false ∷ text Y) i)

rest_from_zero : (X Y : Forest) (i : ℕ) → excess (text X) (length (text X)) ≡ pos 0 → excess (text (tree X Y)) (length (text X) + 2 + i) ≡ excess (text Y) i
rest_from_zero X Y i z =
    grind (arith, ints, excess-append_right, excess-cons, excess-cons true (text X ++ false ∷ text Y) ((length (text X)) + suc i))

pub total_is_zero : (F : Forest) → excess (text F) (length (text F)) ≡ pos 0
total_is_zero none = excess-nil 0
total_is_zero (tree X Y) = grind (arith, ints, length-tree, rest_from_zero X Y (length (text Y)) (total_is_zero X), total_is_zero Y)

-- past the first tree
pub excess_in_rest : (X Y : Forest) (i : ℕ) → excess (text (tree X Y)) (length (text X) + 2 + i) ≡ excess (text Y) i
excess_in_rest X Y i = rest_from_zero X Y i (total_is_zero X)

-- the excess of a forest is nowhere negative
pub never_negative : (F : Forest) (i : ℕ) → i ≤ length (text F) → pos 0 ≤ℤ excess (text F) i
never_negative none i h = grind (arith, ints, excess-nil)
never_negative (tree X Y) zero h = grind (arith, ints, excess-zero)
never_negative (tree X Y) (suc i) h =
    let e : length (text X) < i → excess (text (tree X Y)) (length (text X) + 2 + (i - length (text X) - 1)) ≡ excess (text (tree X Y)) (suc i) = λ a. ap (excess (text (tree X Y))) (omega arith) in
    grind (arith, ints, cases_lt (length (text X)) i, length-tree X Y, never_negative X i, never_negative Y (i - length (text X) - 1), excess_in_rest X Y (i - length (text X) - 1), excess_in_first X Y i)

-- each pair closes as the excess gives
closes_root : (X Y : Forest) → Closes (text (tree X Y)) 0 (length (text X) + 1)
closes_root X Y =
    let len = length-tree X Y in let start = excess-zero (text (tree X Y)) in let rest = excess_in_rest X Y 0 in let z = excess-zero (text Y) in
    let end : excess (text (tree X Y)) (length (text X) + 1 + 1) ≡ excess (text (tree X Y)) (length (text X) + 2 + 0) = ap (excess (text (tree X Y))) (omega arith) in
    record {
      after = omega arith;
      inside = omega arith;
      back = omega (arith, ints);
      above = λ j h k.
          let e : excess (text (tree X Y)) (j - 1 + 1) ≡ excess (text (tree X Y)) j = ap (excess (text (tree X Y))) (omega arith) in
          omega (arith, ints, excess_in_first X Y (j - 1) (omega arith), never_negative X (j - 1) (omega arith));
    }

-- what closes in a list closes at the same position in another list along which the excess is the same
pub closes_moved : (l m : List Bool) (p x y : ℕ) → p + length m ≤ length l → ((j : ℕ) → j ≤ length m → excess l (p + j) ≡ excess l p +ℤ excess m j) → Closes m x y → Closes l (p + x) (p + y)
closes_moved l m p x y h at c =
    let ax = at x (omega arith) in let ay = at (y + 1) (omega arith) in
    record {
      after = omega arith;
      inside = omega arith;
      back = (let e : excess l (p + y + 1) ≡ excess l (p + (y + 1)) = ap (excess l) (omega arith) in omega (arith, ints));
      above = λ j u v. let r = c.above (j - p) (omega arith) (omega arith) in let aj = at (j - p) (omega arith) in let e : excess l (p + (j - p)) ≡ excess l j = ap (excess l) (omega arith) in omega (arith, ints);
    }

pub paired_closes : (F : Forest) (v c : ℕ) → Paired F v c → Closes (text F) v c
paired_closes none v c p = absurd p
paired_closes (tree X Y) v c (inl p) = rw (p.0, p.1) (closes_root X Y)
paired_closes (tree X Y) v c (inr (inl p)) = let a : v ≡ 1 + p.0 = (omega arith) in let b : c ≡ 1 + p.1 = (omega arith) in rw (a, b) (closes_moved (text (tree X Y)) (text X) 1 p.0 p.1 (grind (arith, ints, length-tree)) (λ j h. grind (arith, ints, excess_in_first X Y j h, excess_in_first X Y 0, excess-zero (text X))) (paired_closes X p.0 p.1 p.4))
paired_closes (tree X Y) v c (inr (inr p)) = rw (p.2, p.3) (closes_moved (text (tree X Y)) (text Y) (length (text X) + 2) p.0 p.1 (grind (arith, length-tree)) (λ j h. grind (arith, ints, excess_in_rest X Y j, excess_in_rest X Y 0, excess-zero (text Y))) (paired_closes Y p.0 p.1 p.4))

-- each bit is one end of a pair, a one where it opens and a zero where it closes
abbrev end_at : Bool → ℕ → ℕ → ℕ
end_at true v c = v
end_at false v c = c

end_moved : (bit : Bool) (n v c : ℕ) → end_at bit (n + v) (n + c) ≡ n + end_at bit v c
end_moved bit n v c = grind arith

bit_is_paired : (F : Forest) (bit : Bool) (i : ℕ) (d : Bool) → i < length (text F) → get_or (text F) i d ≡ bit → (v : ℕ) × (c : ℕ) × Paired F v c × (end_at bit v c ≡ i)
bit_is_paired none bit i d h b = absurd (omega arith)
bit_is_paired (tree X Y) true zero d h b = (0, length (text X) + 1, inl (refl, refl), refl)
bit_is_paired (tree X Y) false zero d h b = absurd (cc)
bit_is_paired (tree X Y) bit (suc i) d h b = ⊎_elim
    (λ (e : i ≡ length (text X)). last e bit (sym b ∙ ap (λ (m : ℕ). get_or (text (tree X Y)) (suc m) d) e ∙ get_or_at (text X) false (text Y) d (length (text X)) refl))
    (λ (o : (i < length (text X)) ⊎ (length (text X) < i)). ⊎_elim
    (λ (a : i < length (text X)).
    let r = bit_is_paired X bit i d a (sym (get_or_append_left (text X) (false ∷ text Y) d i a) ∙ b) in let m = end_moved bit 1 r.0 r.1 in let e = r.3 in
    (1 + r.0, 1 + r.1, inr (inl (r.0, r.1, omega arith, omega arith, r.2)), omega arith))
    (λ (a : length (text X) < i).
    let len = length-tree X Y in let g : length (text X) + suc (i - length (text X) - 1) ≡ i = omega arith in
    let r = bit_is_paired Y bit (i - length (text X) - 1) d (omega arith) (sym (get_or-append-add (text X) (false ∷ text Y) (suc (i - length (text X) - 1)) d) ∙ ap (λ (m : ℕ). get_or (text (tree X Y)) (suc m) d) g ∙ b) in
    let m = end_moved bit (length (text X) + 2) r.0 r.1 in let e = r.3 in
    (length (text X) + 2 + r.0, length (text X) + 2 + r.1, inr (inr (r.0, r.1, refl {a = length (text X) + 2 + r.0}, refl {a = length (text X) + 2 + r.1}, r.2)), omega arith))
    o)
    (cases_order i (length (text X)))
  where
    last : i ≡ length (text X) → (bit : Bool) → bit ≡ false → (v : ℕ) × (c : ℕ) × Paired (tree X Y) v c × (end_at bit v c ≡ suc i)
    last e true f = absurd (cc)
    last e false f = (0, length (text X) + 1, inl (refl, refl), omega arith)

pub open_is_paired : (F : Forest) (v : ℕ) (d : Bool) → v < length (text F) → get_or (text F) v d ≡ true → (c : ℕ) × Paired F v c
open_is_paired F v d h b = let r = bit_is_paired F true v d h b in (r.1, subst (λ (k : ℕ). Paired F k r.1) r.3 r.2)

pub close_is_paired : (F : Forest) (c : ℕ) (d : Bool) → c < length (text F) → get_or (text F) c d ≡ false → (v : ℕ) × Paired F v c
close_is_paired F c d h b = let r = bit_is_paired F false c d h b in (r.0, subst (λ (k : ℕ). Paired F r.0 k) r.3 r.2)

-- an opening position rises, and a closing position falls
pub closes_rises : (l : List Bool) (v c : ℕ) (d : Bool) → Closes l v c → get_or l v d ≡ true
closes_rises l v c d p = open_from_rise l v d (omega arith) (p.above (v + 1) (omega arith) (omega arith))

pub closes_falls : (l : List Bool) (v c : ℕ) (d : Bool) → Closes l v c → get_or l c d ≡ false
closes_falls l v c d p = let x = p.above c p.after (omega arith) in close_from_fall l c d p.inside (omega (arith, ints))

pub closes_paired : (F : Forest) (v c : ℕ) → Closes (text F) v c → Paired F v c
closes_paired F v c p = grind (arith, ints, paired_closes, open_is_paired F v false (omega arith) (closes_rises (text F) v c false p))
