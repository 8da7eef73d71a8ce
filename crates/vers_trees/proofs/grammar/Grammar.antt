-- Balanced lists: what reading from the left decides of them, and that their excess is nowhere negative and zero at the end.
use Rattle.vers_trees.proofs.Names.{◌≡◌, ℕ, zero, suc, ◌≤◌, Bool, true, false, List, [], ◌∷◌, ◌++◌, length, pos, ◌+ℤ◌, ◌≤ℤ◌, arith, append_assoc, subst, sym, refl, ap, ◌∙◌, ints, append-nil, excess, Forest, none, tree, text, IsBalanced, closes, parse, forest_of, Decides, are_balanced}
use Rattle.vers_trees.proofs.grammar.Excess.{excess-zero, excess-cons}
use Rattle.vers_trees.proofs.grammar.Paired.{never_negative, total_is_zero}

-- a forest written down closes what it opens
closes-text : (F : Forest) (n : ℕ) (rest : List Bool) → closes n (text F ++ rest) ≡ closes n rest
closes-text none n rest = refl
closes-text (tree X Y) n rest = grind (arith, append_assoc, closes-text X (suc n) (false ∷ (text Y ++ rest)), closes-text Y n rest)

-- a forest, a zero that closes what was open before, and then the same for the others that are open
abbrev Closing : ℕ → List Bool → Type 0
Closing zero bits = IsBalanced bits
Closing (suc n) bits = (F : Forest) × (rest : List Bool) × (text F ++ false ∷ rest ≡ bits) × Closing n rest

-- one tree more before them
Closing-tree : (n : ℕ) (F : Forest) (rest : List Bool) → Closing n rest → Closing n (true ∷ (text F ++ false ∷ rest))
Closing-tree zero F rest c = record { forest = tree F c.forest; written = rw c.written refl }
Closing-tree (suc n) F rest c = (tree F c.0, c.1, rw (← c.2) (ap (λ l. true ∷ l) (append_assoc (text F) (false ∷ text c.0) (false ∷ c.1))), c.3)

Closing-from : (bits : List Bool) (n : ℕ) → closes n bits ≡ true → Closing n bits
Closing-from [] zero h = grind arith
Closing-from [] (suc n) h = cc
Closing-from (true ∷ bits) n h = grind (arith, Closing-tree, Closing-from bits (suc n) h)
Closing-from (false ∷ bits) zero h = cc
Closing-from (false ∷ bits) (suc n) h = (none, bits, refl, Closing-from bits n h)

pub balance_decides : (bits : List Bool) → Decides (are_balanced bits) (IsBalanced bits)
balance_decides bits = (λ h. Closing-from bits 0 h, λ b. rw (← b.written, ← append-nil (text b.forest)) (closes-text b.forest 0 []))

-- ---- reading a forest back
-- one forest after another
abbrev joined : Forest → Forest → Forest
joined none G = G
joined (tree X Y) G = tree X (joined Y G)

joined-none : (F : Forest) → joined F none ≡ F
joined-none none = refl
joined-none (tree X Y) = ap (tree X) (joined-none Y)

parse-text : (F : Forest) (l : List Bool) → parse (text F ++ l) ≡ (joined F (parse l).0, (parse l).1)
parse-text none l = refl
parse-text (tree X Y) l = grind (arith, append_assoc, joined-none, parse-text Y l, parse-text X (false ∷ (text Y ++ l)))

-- a forest is read back from its text, so no list is the text of two
pub forest_of-text : (F : Forest) → forest_of (text F) ≡ F
unfolding forest_of
forest_of-text F = ap (λ (m : List Bool). (parse m).0) (sym (append-nil (text F))) ∙ ap (λ (p : Forest × List Forest). p.0) (parse-text F []) ∙ joined-none F

-- with d ones still open before it, a list whose excess never falls below what they allow, and uses it up, closes them all and no more
pub closes_from_excess : (l : List Bool) (d : ℕ) → ((i : ℕ) → i ≤ length l → pos 0 ≤ℤ (excess l i +ℤ pos d)) → excess l (length l) +ℤ pos d ≡ pos 0 → closes d l ≡ true
closes_from_excess [] zero a t = refl
closes_from_excess [] (suc d) a t = grind (arith, ints, excess-zero)
closes_from_excess (true ∷ l) d a t = closes_from_excess l (suc d) (λ i x. omega (arith, ints, a (suc i) (omega arith), excess-cons true l i)) (omega (arith, ints, excess-cons true l (length l)))
closes_from_excess (false ∷ l) zero a t = absurd (omega (arith, ints, a 1 (omega arith), excess-cons false l 0, excess-zero l))
closes_from_excess (false ∷ l) (suc d) a t = closes_from_excess l d (λ i x. omega (arith, ints, a (suc i) (omega arith), excess-cons false l i)) (omega (arith, ints, excess-cons false l (length l)))

pub balanced_total : (l : List Bool) → IsBalanced l → excess l (length l) ≡ pos 0
balanced_total l b = subst (λ (m : List Bool). excess m (length m) ≡ pos 0) b.written (total_is_zero b.forest)

pub balanced_above : (l : List Bool) → IsBalanced l → (i : ℕ) → i ≤ length l → pos 0 ≤ℤ excess l i
balanced_above l b = subst (λ (m : List Bool). (i : ℕ) → i ≤ length m → pos 0 ≤ℤ excess m i) b.written (never_negative b.forest)

-- no list writes down two forests
pub one_forest : (F G : Forest) → text F ≡ text G → F ≡ G
one_forest F G e = sym (forest_of-text F) ∙ ap forest_of e ∙ forest_of-text G

-- a balanced list is the forest that it is read as, written down
pub text-forest_of : (l : List Bool) → IsBalanced l → text (forest_of l) ≡ l
text-forest_of l b = ap (λ (m : List Bool). text (forest_of m)) (sym b.written) ∙ ap text (forest_of-text b.forest) ∙ b.written
