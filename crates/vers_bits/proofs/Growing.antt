-- A list that grows by the parts of another, 64 bits at a time.
use Rattle.vers_bits.proofs.Names.{◌≡◌, ℕ, ◌+◌, ◌*◌, ◌≤◌, Bool, List, [], ◌∷◌, ◌++◌, length, take, drop, sym, ap, ◌∙◌, arith, take-add, length-take, length-drop, drop-drop, take_all, append-nil, length-append, number, low_bits, flat_map}
use Rattle.vers_bits.proofs.LowBits.{low_bits_of_number, low_bits_of_rest, low_bits_none, low_bits_past, length-low_bits}

-- a part as low digits of its number
pub low_bits_of_part : (l : List Bool) (p n : ℕ) → p + n ≤ length l → low_bits (number (take n (drop p l))) n ≡ take n (drop p l)
low_bits_of_part l p n within =
    let long : length (take n (drop p l)) ≡ n = grind (arith, length-take, length-drop) in
    grind (arith, low_bits_of_number)

-- 64 bits more
pub next_limb : (l : List Bool) (s k : ℕ) → s + 64 * k + 64 ≤ length l
    → take (64 * k) (drop s l) ++ low_bits (number (take 64 (drop (s + 64 * k) l))) 64 ≡ take (64 * (k + 1)) (drop s l)
next_limb l s k within =
    let more : 64 * k + 64 ≡ 64 * (k + 1) = omega arith in
    ap (λ xs. take (64 * k) (drop s l) ++ xs) (low_bits_of_part l (s + 64 * k) 64 within ∙ sym (ap (take 64) (drop-drop (64 * k) s l)))
    ∙ sym (take-add (64 * k) 64 (drop s l)) ∙ ap (λ m. take m (drop s l)) more

-- the bits after them, which are all that are left
pub last_bits : (l : List Bool) (s m n : ℕ) → s + m + n ≡ length l
    → take m (drop s l) ++ low_bits (number (take n (drop (s + m) l))) n ≡ drop s l
last_bits l s m n all =
    let same = drop-drop m s l in
    grind (arith, low_bits_of_part, take-add m n (drop s l), take_all, length-drop s l)

pub add_none : (l : List Bool) (v n : ℕ) → n ≡ 0 → l ++ low_bits v n ≡ l
add_none l v n none = rw (none, low_bits_none v) (append-nil l)

-- a packed list has as many bits an item
pub length-packed : {X : Type 0} (f : X → ℕ) (k : ℕ) (xs : List X) → length (flat_map (λ x. low_bits (f x) k) xs) ≡ length xs * k
length-packed f k [] = omega arith
length-packed f k (x ∷ xs) = grind (arith, length-append, length-low_bits, length-packed f k xs)

pub ruleset growth = (low_bits_of_rest, add_none)
