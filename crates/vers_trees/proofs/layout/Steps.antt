-- A number without the zeros at its end, and how many digits it has.
use Rattle.vers_trees.proofs.Names.{◌≡◌, ℕ, zero, suc, Bool, bool_byte, ◌+◌, ◌-◌, ◌*◌, ◌/◌, ◌%◌, ◌^◌, ◌<◌, ◌≤◌, arith, sym, ap, ◌∙◌, bit_at, pow-succ', le-mul_of_pos_right, pow_pos, shr-shr, bit_at_lowest, bit_at-suc, digits, Reads, AddsAtMost, only_nodes, digits_half, digits_up, adds_then, adds_weaker, adds_nothing, IsOddPart, bit_value_le, byte_value}

-- a number whose lowest digits are zeros is what is above them, with as many zeros after it
pub zeros_below : (i n : ℕ) → ((j : ℕ) → j < i → bit_at n j ≡ 0) → n / 2 ^ i * 2 ^ i ≡ n
zeros_below zero n h = omega arith
zeros_below (suc i) n h =
    let even : n % 2 ≡ 0 = sym (bit_at_lowest n) ∙ h 0 (omega arith) in let twice : 2 ^ suc i ≡ 2 * 2 ^ i = pow-succ' 2 i in
    let above : n / 2 / 2 ^ i ≡ n / 2 ^ suc i = shr-shr n 1 i ∙ ap (λ (k : ℕ). n / 2 ^ k) (let g : 1 + i ≡ suc i = omega arith in g) in
    let q : n / 2 ^ suc i * 2 ^ suc i ≡ n / 2 / 2 ^ i * (2 * 2 ^ i) = ap (λ (x : ℕ). x * 2 ^ suc i) (sym above) ∙ ap (λ (x : ℕ). n / 2 / 2 ^ i * x) twice in
    omega (arith, q, (zeros_below i (n / 2) (λ j a. sym (bit_at-suc n j) ∙ h (suc j) (omega arith))))

pub odd_most : (n odd : ℕ) → IsOddPart n odd → odd ≤ n
odd_most n odd p = omega (arith, le-mul_of_pos_right odd (pow_pos p.zeros))

-- the node after the parent of a right child is a level up at least
pub digits_after : (node odd : ℕ) → 0 < node → node % 2 ≡ 0 → IsOddPart ((node - 1) / 2 + 2) odd → digits odd + 1 ≤ digits (node + 1)
digits_after node odd some even p = let most = odd_most _ _ p in grind (arith, digits_up, digits_half)

-- the node before the parent of a left child is a level up at least
pub digits_before : (node odd : ℕ) → node % 2 ≡ 1 → IsOddPart ((node - 1) / 2 + 1) odd → digits (odd - 2 + 1) + 1 ≤ digits (node + 1)
digits_before node odd left p = let most = odd_most _ _ p in grind (arith, digits_half, digits_up)

-- ---- how many nodes a search reads: a level has a digit more than the one above it
pub adds_none : (a p : Reads) → AddsAtMost a a p
adds_none a p = adds_weaker (adds_nothing a) (grind arith)

digits_child : (m n : ℕ) → n / 2 ≡ m → 0 < n → digits n ≡ digits m + 1
digits_child m n e h = omega (arith, digits_half n h, ap digits e)

-- going down: the node at each level is one of two
pub one_of_two : (b : Bool) → bool_byte b ≤ 1
one_of_two b = omega (arith, bit_value_le b, byte_value b)

-- two nodes read at each level, and one before the first
pub read_down : (a b c d : Reads) (node child : ℕ) → (child + 1) / 2 ≡ node + 1 → AddsAtMost a b (only_nodes (2 * digits (node + 1) - 1)) → AddsAtMost b c (only_nodes 1) → AddsAtMost c d (only_nodes 1)
    → AddsAtMost a d (only_nodes (2 * digits (child + 1) - 1))
read_down a b c d node child e p q r =
    let both : AddsAtMost b d (only_nodes 2) = adds_then q r (grind arith) in
    adds_then p both (grind (arith, digits_child, digits_half))

pub down_begins : (a b : Reads) (node : ℕ) → AddsAtMost a b (only_nodes 1) → AddsAtMost a b (only_nodes (2 * digits (node + 1) - 1))
down_begins a b node p = adds_weaker p (grind (arith, digits_half))

pub down_ends : (a b : Reads) (node first : ℕ) → node ≤ 2 * first → AddsAtMost a b (only_nodes (2 * digits (node + 1) - 1)) → AddsAtMost a b (only_nodes (2 * digits first + 1))
down_ends a b node first h p = grind (arith, digits_up, digits_child, adds_weaker)

-- climbing: at most a node read at each level
pub read_up : (a b c : Reads) (first node up : ℕ) → node ≤ 2 * first → digits (up + 1) + 1 ≤ digits (node + 1) → AddsAtMost a b (only_nodes (digits (2 * first + 1) - digits (node + 1))) → AddsAtMost b c (only_nodes 1) → AddsAtMost a c (only_nodes (digits (2 * first + 1) - digits (up + 1)))
read_up a b c first node up h d p q = grind (arith, digits_up, adds_then)

pub up_ends : (a b : Reads) (first node : ℕ) → node ≤ 2 * first → AddsAtMost a b (only_nodes (digits (2 * first + 1) - digits (node + 1))) → AddsAtMost a b (only_nodes (4 * digits first))
up_ends a b first node h p = grind (arith, digits_child, digits_half, adds_weaker)

-- the last step up, which reads a node, and then nothing or the way down
pub up_then_down : (a b c d : Reads) (first node : ℕ) → node ≤ 2 * first → 0 < node → AddsAtMost a b (only_nodes (digits (2 * first + 1) - digits (node + 1))) → AddsAtMost b c (only_nodes 1) → AddsAtMost c d (only_nodes (2 * digits first + 1)) → AddsAtMost a d (only_nodes (4 * digits first))
up_then_down a b c d first node h some p q r =
    let u : AddsAtMost a c (only_nodes (digits first)) = adds_then p q (grind (arith, digits_child, digits_half, digits_up)) in
    let one : 1 ≤ digits first = grind (arith, digits_half) in
    adds_then u r (grind arith)
