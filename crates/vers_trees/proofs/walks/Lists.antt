-- Lists of positions: moved to the right, and those of a list that follows another.
use Rattle.vers_trees.proofs.Names.{◌≡◌, ℕ, zero, suc, ◌+◌, ◌<◌, Bool, true, false, cond, List, [], ◌∷◌, ◌++◌, map, length, get_or, arith, subst, sym, refl, ap, ◌∙◌, negsuc, inl, inr, filter, All, range_with_len, map-append, append_assoc, All-nil, All-cons, All-head, All-tail, All-append, All-map, All-weaker, is_bit, positions, moved, Forest, none, tree, text, opening_of, pairs_by_closing, postorder, Option, unwrap_or, add_assoc, zero-add, map-id, cond_both, map-map}
use Rattle.vers_bits.proofs.PublicLaws.{positions-cons as positions_after_first}
use Rattle.vers_trees.proofs.grammar.Paired.{Paired, paired_closes}
use Rattle.vers_trees.proofs.grammar.Pairs.{PairedIn}
use Rattle.vers_trees.proofs.kin.Partners.{before_from_closes}
use Rattle.vers_trees.proofs.searches.Searches.{before_is}

-- positions moved to the right by n
abbrev pub shifted : ℕ → List ℕ → List ℕ
shifted n positions = map (λ v. n + v) positions

-- where pairs open, and where they close
abbrev pub opening_positions : List (ℕ × ℕ) → List ℕ
opening_positions qs = map (λ q. q.0) qs

abbrev pub closing_positions : List (ℕ × ℕ) → List ℕ
closing_positions qs = map (λ q. q.1) qs

pub opening_moved : (n : ℕ) (qs : List (ℕ × ℕ)) → opening_positions (map (moved n) qs) ≡ shifted n (opening_positions qs)
opening_moved n qs = map-map (λ (q : ℕ × ℕ). q.0) (moved n) qs ∙ sym (map-map (λ v. n + v) (λ (q : ℕ × ℕ). q.0) qs)

pub closing_moved : (n : ℕ) (qs : List (ℕ × ℕ)) → closing_positions (map (moved n) qs) ≡ shifted n (closing_positions qs)
closing_moved n qs = map-map (λ (q : ℕ × ℕ). q.1) (moved n) qs ∙ sym (map-map (λ v. n + v) (λ (q : ℕ × ℕ). q.1) qs)

pub shifted-shifted : (m n : ℕ) (xs : List ℕ) → shifted m (shifted n xs) ≡ shifted (m + n) xs
shifted-shifted m n xs = map-map (λ v. m + v) (λ v. n + v) xs ∙ simp add_assoc

pub positions-cons : (bit b : Bool) (l : List Bool) → positions bit (b ∷ l) ≡ cond (is_bit bit b) (0 ∷ []) [] ++ shifted 1 (positions bit l)
positions-cons = positions_after_first

pub positions-append : (bit : Bool) (k l : List Bool) → positions bit (k ++ l) ≡ positions bit k ++ shifted (length k) (positions bit l)
unfolding positions
positions-append bit [] l = simp (zero-add, map-id)
positions-append bit (b ∷ k) l = grind (arith, positions-cons, map-append, shifted-shifted, append_assoc, positions-append bit k l)

-- the positions of a tree written down, and of what follows it
pub positions-tree : (bit : Bool) (k l : List Bool) → positions bit (true ∷ (k ++ false ∷ l))
    ≡ cond (is_bit bit true) (0 ∷ []) [] ++ (shifted 1 (positions bit k) ++ (shifted (1 + length k) (cond (is_bit bit false) (0 ∷ []) []) ++ shifted (1 + length k + 1) (positions bit l)))
positions-tree bit k l = grind (arith, positions-cons, positions-append, map-append, shifted-shifted)

-- ---- what a test keeps
-- tests of a thing and of what it is made into
pub filter_mapped : {X Y : Type 0} → (p : Y → Bool) (q : X → Bool) (f : X → Y) (xs : List X) → All (λ x. p (f x) ≡ q x) xs → filter p (map f xs) ≡ map f (filter q xs)
filter_mapped p q f [] h = refl
filter_mapped p q f (x ∷ xs) h = grind (arith, All-head (λ y. p (f y) ≡ q y) x xs h, filter_mapped p q f xs (All-tail (λ y. p (f y) ≡ q y) x xs h))

-- ---- each of the positions of a bit
-- the list has the bit at the position
pub record HasBitAt (bit : Bool) (l : List Bool) (p : ℕ) : Type 0 where
  pub inside : p < length l
  pub holds : is_bit bit (get_or l p false) ≡ true

pub all_positions : (bit : Bool) (l : List Bool) → All (HasBitAt bit l) (positions bit l)
unfolding positions
all_positions bit [] = All-nil (HasBitAt bit [])
all_positions bit (b ∷ l) =
    let first = cond_both (is_bit bit b) (0 ∷ []) [] (All (HasBitAt bit (b ∷ l))) (λ e. All-cons (HasBitAt bit (b ∷ l)) 0 [] (record { inside = omega arith; holds = e }) (All-nil (HasBitAt bit (b ∷ l)))) (λ e. All-nil (HasBitAt bit (b ∷ l))) in
    let later = All-map (HasBitAt bit (b ∷ l)) (λ v. 1 + v) (positions bit l) (All-weaker (HasBitAt bit l) (λ v. HasBitAt bit (b ∷ l) (1 + v)) (λ v h. record { inside = (omega arith); holds = subst (λ (m : ℕ). is_bit bit (get_or (b ∷ l) m false) ≡ true) (let e : suc v ≡ 1 + v = omega arith in e) h.holds }) (positions bit l) (all_positions bit l)) in
    subst (All (HasBitAt bit (b ∷ l))) (sym (positions-cons bit b l)) (All-append (HasBitAt bit (b ∷ l)) (cond (is_bit bit b) (0 ∷ []) []) (shifted 1 (positions bit l)) first later)

-- ---- the nodes of a forest in postorder open what the zeros of its text close, in their order
-- the zeros are where the pairs close, in this order
pub closing_is_zeros : (F : Forest) → closing_positions (pairs_by_closing F) ≡ positions false (text F)
unfolding positions
closing_is_zeros none = refl
closing_is_zeros (tree X Y) =
    let n : length (text X) + 2 ≡ 1 + length (text X) + 1 = omega arith in let c : length (text X) + 1 ≡ 1 + length (text X) + 0 = omega arith in
    simp (map-append, closing_moved) (rw (closing_is_zeros X, closing_is_zeros Y, n, c) (sym (positions-tree false (text X) (text Y))))

-- each is a pair of the forest
pub closing_paired : (F : Forest) → All (λ q. Paired F q.0 q.1) (pairs_by_closing F)
closing_paired none = All-nil (PairedIn none)
closing_paired (tree X Y) =
    let n = length (text X) + 2 in
    let first = All-weaker (PairedIn X) (λ q. PairedIn (tree X Y) (moved 1 q)) (λ q h. inr (inl (q.0, q.1, omega arith, omega arith, h))) (pairs_by_closing X) (closing_paired X) in
    let rest = All-weaker (PairedIn Y) (λ q. PairedIn (tree X Y) (moved n q)) (λ q h. inr (inr (q.0, q.1, refl, refl, h))) (pairs_by_closing Y) (closing_paired Y) in
    All-append (PairedIn (tree X Y)) (map (moved 1) (pairs_by_closing X)) ((0, length (text X) + 1) ∷ map (moved n) (pairs_by_closing Y))
    (All-map (PairedIn (tree X Y)) (moved 1) (pairs_by_closing X) first)
    (All-cons (PairedIn (tree X Y)) (0, length (text X) + 1) (map (moved n) (pairs_by_closing Y)) (inl (refl, refl)) (All-map (PairedIn (tree X Y)) (moved n) (pairs_by_closing Y) rest))

-- what is true of one position of each pair and the other is true of the lists of them
pub mapped_all : (f : ℕ → ℕ) (a b : ℕ × ℕ → ℕ) (qs : List (ℕ × ℕ)) → All (λ q. f (a q) ≡ b q) qs → map f (map a qs) ≡ map b qs
mapped_all f a b [] h = refl
mapped_all f a b (q ∷ qs) h = rw (All-head (λ q. f (a q) ≡ b q) q qs h, mapped_all f a b qs (All-tail (λ q. f (a q) ≡ b q) q qs h)) refl

-- a search backwards from where a pair closes finds where it opens
pub postorder_opens : (F : Forest) → map (opening_of (text F)) (positions false (text F)) ≡ postorder F
postorder_opens F =
    let opens = All-weaker (PairedIn F) (λ q. opening_of (text F) q.1 ≡ q.0) (λ q h. ap (λ (o : Option ℕ). unwrap_or o 0) (before_is (text F) q.1 (negsuc 0) q.0 (before_from_closes (text F) q.0 q.1 (paired_closes F q.0 q.1 h)))) (pairs_by_closing F) (closing_paired F) in
    ap (map (opening_of (text F))) (sym (closing_is_zeros F)) ∙ mapped_all (opening_of (text F)) (λ q. q.1) (λ q. q.0) (pairs_by_closing F) opens
