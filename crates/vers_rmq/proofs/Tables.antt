-- The table of positions.
use Rattle.vers_rmq.proofs.Names.{◌≡◌, ℕ, ◌+◌, ◌-◌, ◌*◌, ◌^◌, ◌<◌, ◌≤◌, List, [], ◌∷◌, ◌++◌, length, get_or, refl, ap, inl, inr, arith, mul-le-mul_left, pow_pos, cases_lt, length_push, get_or_push, get_or_append_left, clog, PlacedItem, IsFirstLeast, lesser, IsLeastItem, lesser_item, clog_is, clog_up, pow_next, digits-le}
use Rattle.vers_rmq.specs.inside.Tables.{HoldsPositions, IsTable, reach}
use Rattle.vers_rmq.proofs.Minima.{least_at, least_join, least_ends, item_at, item_ends}

-- a position of the table has one level
same_row : (n a b i j : ℕ) → i < n → j < n → n * a + i ≡ n * b + j → a ≡ b
same_row n a b i j il jl e = grind (arith, mul-le-mul_left)

-- one more entry
pub add_position : (xs table more : List ℕ) (k i m : ℕ) → HoldsPositions xs table → length table ≡ length xs * k + i → i < length xs
    → IsFirstLeast xs i (reach (length xs) k i) m → more ≡ table ++ m ∷ [] → HoldsPositions xs more
add_position xs table more k i m holds counted inside position e = rw e (record {
  position = λ a j jl at. elim (cases_lt (length xs * a + j) (length table)) [
    | inl old ↦ rw (get_or_append_left table (m ∷ []) 0 (length xs * a + j) old) (holds.position a j jl old)
    | inr new ↦
        let last : length xs * a + j ≡ length xs * k + i = omega (arith, length_push table m) in
        let row : a ≡ k = same_row (length xs) a k j i jl inside last in
        let column : j ≡ i = omega (arith, last, ap (λ r. length xs * r) row) in
        rw (row, column, get_or_push table m 0 (length xs * k + i) counted) position
  ];
})

pub level_zero : (xs : List ℕ) (i : ℕ) → i < length xs → IsFirstLeast xs i (reach (length xs) 0 i) i
level_zero xs i h = least_ends xs i i (reach (length xs) 0 i) i (omega arith) (least_at xs i)

-- an entry of the next level
pub next_joined : (xs table : List ℕ) (k i : ℕ) → HoldsPositions xs table → length xs * k + length xs ≤ length table → i + 2 ^ k < length xs
    → IsFirstLeast xs i (reach (length xs) (k + 1) i) (lesser xs (get_or table (length xs * k + i) 0) (get_or table (length xs * k + (i + 2 ^ k)) 0))
next_joined xs table k i holds room inside =
    let here : i < length xs = omega arith in
    least_join xs i (reach (length xs) k i) (i + 2 ^ k) (reach (length xs) (k + 1) i) _ _
    (holds.position k i here (omega arith))
    (least_ends xs (i + 2 ^ k) (reach (length xs) k (i + 2 ^ k)) (reach (length xs) (k + 1) i) _ (omega (arith, pow_next k)) (holds.position k (i + 2 ^ k) inside (omega arith)))
    (omega arith) (omega (arith, pow_pos k)) (omega (arith, pow_next k))

pub next_same : (xs table : List ℕ) (k i : ℕ) → HoldsPositions xs table → length xs * k + length xs ≤ length table → i < length xs → length xs ≤ i + 2 ^ k
    → IsFirstLeast xs i (reach (length xs) (k + 1) i) (get_or table (length xs * k + i) 0)
next_same xs table k i holds room here far = grind (arith, least_ends, pow_next)

pub level_inside : (xs table : List ℕ) (k : ℕ) → IsTable xs table → 2 ^ k ≤ length xs → length xs * k + length xs ≤ length table
level_inside xs table k t h = omega (arith, t.counted, mul-le-mul_left (length xs) (clog_up (length xs) k h))

pub room_of : (xs table : List ℕ) (k i n : ℕ) → IsTable xs table → i + 2 ^ k ≤ length xs → n ≡ length xs → n * k + i < length table
room_of xs table k i n t h e = rw e (omega (arith, level_inside xs table k t (omega (arith, h)), pow_pos k))

-- an entry of a level
pub level_at : (xs table : List ℕ) (k i n : ℕ) → IsTable xs table → n ≡ length xs → i + 2 ^ k ≤ length xs → IsFirstLeast xs i (i + 2 ^ k - 1) (get_or table (n * k + i) 0)
level_at xs table k i n is en inside = rw en (least_ends xs i (reach (length xs) k i) (i + 2 ^ k - 1) _ (omega arith) (is.positions.position k i (omega (arith, pow_pos k)) (room_of xs table k i (length xs) is inside refl)))

pub table_is : (xs table : List ℕ) (k : ℕ) → length xs < 2 ^ 32 → HoldsPositions xs table → length table ≡ length xs * (k + 1) → length xs ≤ 2 ^ k → (0 < length xs → 2 ^ k < 2 * length xs) → IsTable xs table
table_is xs table k few holds counted up down = record {
  bounded = few;
  positions = holds;
  counted = elim (cases_lt 0 (length xs)) [
    | inl some ↦ rw (clog_is (length xs) k up (down some)) counted
    | inr none ↦ let e : length xs ≡ 0 = omega arith in grind arith
  ];
}

-- a query from two entries
pub asked : (xs ys : List ℕ) (k i j w h m n : ℕ) (a b r : PlacedItem) → xs ≡ ys → i ≤ j → w ≡ 2 ^ k → 2 ^ k ≤ j - i + 1 → j - i + 1 < 2 * 2 ^ k → h ≡ j + 1 - w
    → IsFirstLeast ys i (i + 2 ^ k - 1) m → IsFirstLeast ys h (h + 2 ^ k - 1) n → a.position ≡ m → a.value ≡ get_or xs m 0 → b.position ≡ n → b.value ≡ get_or xs n 0
    → r ≡ lesser_item a b → IsLeastItem ys i j r
asked xs ys k i j w h m n a b r e ij ew low high eh left right pa va pb vb v = grind (arith, item_at, item_ends)

-- the sizes of the table
pub table_size : (xs table : List ℕ) → IsTable xs table → (length table ≡ length xs * (clog (length xs) + 1)) × (length table ≤ 33 * length xs) × (length xs < 2 ^ 32)
table_size xs table t =
    let few : clog (length xs) ≤ 32 = digits-le 32 (length xs - 1) (omega (arith, t.bounded)) in
    (t.counted, omega (arith, t.counted, mul-le-mul_left {m = clog (length xs) + 1} {n = 33} (length xs) (omega (arith, few))), t.bounded)
