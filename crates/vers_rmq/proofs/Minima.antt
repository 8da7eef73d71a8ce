-- How first positions of least items join.
use Rattle.vers_rmq.proofs.Names.{◌≡◌, ℕ, ◌+◌, ◌-◌, ◌<◌, ◌≤◌, List, leb, get_or, subst, arith, cond-true, cond-false, le-leb, lt-leb, PlacedItem, IsFirstLeast, IsLeastItem, lesser_item, lesser}
use Rattle.std.proofs.lemmas.Bool.Decides.{nat_tests}

-- a range of one position
pub least_at : (xs : List ℕ) (i : ℕ) → IsFirstLeast xs i i i
least_at xs i = grind arith

-- the choice between two positions
pub lesser_first : (xs : List ℕ) (m n : ℕ) → get_or xs m 0 ≤ get_or xs n 0 → lesser xs m n ≡ m
unfolding lesser
lesser_first xs m n h = grind (arith, nat_tests)

pub lesser_second : (xs : List ℕ) (m n : ℕ) → get_or xs n 0 < get_or xs m 0 → lesser xs m n ≡ n
unfolding lesser
lesser_second xs m n h = grind (arith, nat_tests)

pub lesser_inside : (xs : List ℕ) (m n k : ℕ) → m < k → n < k → lesser xs m n < k
unfolding lesser
lesser_inside xs m n k h i = grind (arith, nat_tests)

-- a least position stays one if the range continues over items that are not below its item
pub least_longer : (xs : List ℕ) (i k h j e m n : ℕ) → IsFirstLeast xs i k m → IsFirstLeast xs h e n → i ≤ h → h ≤ k + 1 → k ≤ j → j ≤ e
    → get_or xs m 0 ≤ get_or xs n 0 → IsFirstLeast xs i j m
least_longer xs i k h j e m n a b ih hk kj je le = grind arith

-- and where it begins earlier, at items that are above its item
pub least_earlier : (xs : List ℕ) (c i k h j m n : ℕ) → IsFirstLeast xs c k m → IsFirstLeast xs h j n → c ≤ i → i ≤ h → h ≤ k + 1 → k ≤ j
    → get_or xs n 0 < get_or xs m 0 → IsFirstLeast xs i j n
least_earlier xs c i k h j m n a b ci ih hk kj lt = grind arith

-- two ranges that meet or overlap
pub least_join : (xs : List ℕ) (i k h j m n : ℕ) → IsFirstLeast xs i k m → IsFirstLeast xs h j n → i ≤ h → h ≤ k + 1 → k ≤ j → IsFirstLeast xs i j (lesser xs m n)
least_join xs i k h j m n a b ih hk kj = grind (arith, lesser_second, least_earlier, lesser_first, least_longer)

-- the ends of a range may be spelled otherwise
pub least_ends : (xs : List ℕ) (i j k m : ℕ) → j ≡ k → IsFirstLeast xs i j m → IsFirstLeast xs i k m
least_ends xs i j k m e a = let P : ℕ → Type 0 = λ n. IsFirstLeast xs i n m in subst P e a

-- the choice between candidates
candidate_second : (a b : PlacedItem) → b.value < a.value → lesser_item a b ≡ b
candidate_second a b h = cond-false (leb a.value b.value) a b (lt-leb a.value b.value h)

-- a candidate read at a position
pub item_at : (xs : List ℕ) (i j m : ℕ) (c : PlacedItem) → IsFirstLeast xs i j m → c.position ≡ m → c.value ≡ get_or xs m 0 → IsLeastItem xs i j c
item_at xs i j m c a position value = grind arith

-- the candidates of two ranges that meet or overlap
pub item_join : (xs : List ℕ) (i k h j : ℕ) (a b r : PlacedItem) → IsLeastItem xs i k a → IsLeastItem xs h j b → i ≤ h → h ≤ k + 1 → k ≤ j → r ≡ lesser_item a b → IsLeastItem xs i j r
item_join xs i k h j a b r left right ih hk kj e = grind (arith, item_at, least_earlier, candidate_second, least_longer, cond-true, le-leb)

-- the ends of a range may be spelled otherwise
pub item_ends : (xs : List ℕ) (i j k : ℕ) (c : PlacedItem) → j ≡ k → IsLeastItem xs i j c → IsLeastItem xs i k c
item_ends xs i j k c e a = let P : ℕ → Type 0 = λ n. IsLeastItem xs i n c in subst P e a

-- the position of the chosen one
pub chosen_position : (xs : List ℕ) (m n : ℕ) (r : PlacedItem) → r ≡ lesser_item (record { position = m; value = get_or xs m 0 }) (record { position = n; value = get_or xs n 0 }) → r.position ≡ lesser xs m n
chosen_position xs m n r e = grind (arith, candidate_second, lesser_second, cond-true, le-leb, lesser_first)

-- a range has one first least position
pub same_position : (xs : List ℕ) (i j m n : ℕ) → IsFirstLeast xs i j m → IsFirstLeast xs i j n → m ≡ n
same_position xs i j m n a b = grind arith

-- a range inside another, with its position
pub least_within : (xs : List ℕ) (s e i j m : ℕ) → IsFirstLeast xs s e m → s ≤ i → i ≤ m → m ≤ j → j ≤ e → IsFirstLeast xs i j m
least_within xs s e i j m a si im mj je = grind arith

-- a scan: its start, a step, and its end
pub scan_start : (xs : List ℕ) (i : ℕ) (c : PlacedItem) → c.position ≡ i → c.value ≡ get_or xs i 0 → IsLeastItem xs i (i + 1 - 1) c
scan_start xs i c position value = item_ends xs i i (i + 1 - 1) c (omega arith) (item_at xs i i i c (least_at xs i) position value)

pub scan_more : (xs : List ℕ) (i k : ℕ) (a b r : PlacedItem) → i < k → IsLeastItem xs i (k - 1) a → b.position ≡ k → b.value ≡ get_or xs k 0 → r ≡ lesser_item a b → IsLeastItem xs i (k + 1 - 1) r
scan_more xs i k a b r ik best position value e = grind (arith, item_ends, item_join, item_at, least_at)

pub scan_end : (xs : List ℕ) (i j k : ℕ) (c : PlacedItem) → k ≡ j + 1 → IsLeastItem xs i (k - 1) c → IsLeastItem xs i j c
scan_end xs i j k c e best = item_ends xs i (k - 1) j c (omega arith) best
