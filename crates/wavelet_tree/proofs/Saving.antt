-- The bits of a tree, as they are stored and saved.
use Rattle.wavelet_tree.proofs.Names.{◌≡◌, ℕ, zero, suc, ◌+◌, ◌*◌, ◌^◌, ◌<◌, ◌≤◌, Bool, true, false, leb, List, [], ◌∷◌, ◌++◌, map, length, take, drop, get_or, refl, sym, ap, ◌∙◌, arith, append_assoc, drop-append-le, drop-cons, drop-drop, drop_all, get_or-drop, get_or-map, get_or-take, get_or_default, length-append, length-drop, length-map, length-take, same_lists, take-append-drop, bit_value, limb, number, part, Symbols, Tree, leaf, fork, bits_in_tree, starts_of, tree_of, tree_bits, lows, highs, weight, IsFork, Stands, IsTreeOf, Node}
use Rattle.wavelet_tree.proofs.Standing.{weight_fork}
use Rattle.wavelet_tree.proofs.Growing.{weight_leaf}
use Rattle.wavelet_tree.proofs.Beginning.{starts_many}

-- a tree has as many bits as forks lead to the elements
pub length_tree_bits : (t : Tree) (xs : List ℕ) → length (tree_bits t xs) ≡ weight t xs
unfolding tree_bits
length_tree_bits (leaf c) xs = sym (weight_leaf c xs)
length_tree_bits (fork m l r) xs =
    length-append (map (λ x. leb m x) xs) (tree_bits l (lows m xs) ++ tree_bits r (highs m xs))
    ∙ omega (arith, length-map xs (λ x. leb m x), length-append (tree_bits l (lows m xs)) (tree_bits r (highs m xs)), length_tree_bits l (lows m xs), length_tree_bits r (highs m xs), weight_fork m l r xs)

-- ---- parts of bits

take_none : {X : Type 0} (n : ℕ) → take {A = X} n [] ≡ []
take_none zero = refl
take_none (suc n) = refl

pub take_add : {X : Type 0} (a b : ℕ) (xs : List X) → take (a + b) xs ≡ take a xs ++ take b (drop a xs)
take_add zero b xs = let none : 0 + b ≡ b = omega arith in rw none refl
take_add (suc a) b [] = let more : suc a + b ≡ suc (a + b) = omega arith in rw more (sym (take_none b))
take_add (suc a) b (x ∷ xs) = let more : suc a + b ≡ suc (a + b) = omega arith in rw more (ap (λ (l : List _). x ∷ l) (take_add a b xs))

pub part_add : (bits : List Bool) (position a b : ℕ) → part bits position (a + b) ≡ part bits position a ++ part bits (position + a) b
part_add bits position a b = take_add a b (drop position bits) ∙ ap (λ (l : List Bool). take a (drop position bits) ++ take b l) (drop-drop a position bits)

pub length_part : (bits : List Bool) (position n : ℕ) → position + n ≤ length bits → length (part bits position n) ≡ n
length_part bits position n within = omega (arith, length-take n (drop position bits), length-drop position bits, within)

pub get_part : (bits : List Bool) (position n k : ℕ) (d : Bool) → k < n → get_or (part bits position n) k d ≡ get_or bits (position + k) d
get_part bits position n k d inside = get_or-take n (drop position bits) k d inside ∙ get_or-drop position bits k d

-- ---- the bits of a stored tree

own_bits : {starts : List ℕ} {nodes : List Node} {bits : List Bool} {used m : ℕ} {l r : Tree} {first at start : ℕ} (xs : List ℕ) → IsFork starts nodes bits used m l r first at start xs → used ≤ length bits
    → part bits start (length xs) ≡ map (λ x. leb m x) xs
own_bits {bits = bits} {m = m} {start = start} xs is within =
    let long = length_part bits start (length xs) (omega (arith, is.within, within)) in
    same_lists _ _ (long ∙ sym (length-map xs (λ x. leb m x))) (λ k d inside.
    let here : k < length xs = omega (arith, inside, long) in
    get_part bits start (length xs) k d here
    ∙ get_or_default bits (start + k) d false (omega (arith, here, is.within, within))
    ∙ is.bit k here
    ∙ sym (get_or-map (λ x. leb m x) xs k 0 d here))

pub stored_bits : (t : Tree) (starts : List ℕ) (nodes : List Node) (bits : List Bool) (used first start : ℕ) (xs : List ℕ) → Stands t starts nodes bits used first start xs → used ≤ length bits
    → part bits start (weight t xs) ≡ tree_bits t xs
unfolding tree_bits
stored_bits (leaf c) starts nodes bits used first start xs stands within = ap (λ n. part bits start n) (weight_leaf c xs)
stored_bits (fork m l r) starts nodes bits used first start xs stands within =
    let n : ℕ = length xs in
    let a : ℕ = weight l (lows m xs) in
    let b : ℕ = weight r (highs m xs) in
    ap (λ n. part bits start n) (weight_fork m l r xs)
    ∙ part_add bits start (n + a) b
    ∙ ap (λ (p : List Bool). p ++ part bits (start + (n + a)) b) (part_add bits start n a)
    ∙ append_assoc (part bits start n) (part bits (start + n) a) (part bits (start + (n + a)) b)
    ∙ ap (λ (p : List Bool). p ++ (part bits (start + n) a ++ part bits (start + (n + a)) b)) (own_bits xs stands.0 within)
    ∙ ap (λ (p : List Bool). map (λ x. leb m x) xs ++ (p ++ part bits (start + (n + a)) b)) (stored_bits l starts nodes bits used first (start + n) (lows m xs) stands.1 within)
    ∙ ap (λ (p : List Bool). map (λ x. leb m x) xs ++ (tree_bits l (lows m xs) ++ p))
    (ap (λ k. part bits k b) (omega arith) ∙ stored_bits r starts nodes bits used _ (start + n + a) (highs m xs) stands.2 within)

-- a tree stores its bits and a zero
pub ended_bits : {symbols : Symbols} {starts : List ℕ} {nodes : List Node} {bits : List Bool} {root width len : ℕ} → IsTreeOf symbols starts nodes bits root width len → bits ≡ bits_in_tree symbols ++ false ∷ []
ended_bits {symbols} {starts} {nodes} {bits} is =
    let w : ℕ = weight (tree_of symbols) symbols.items in
    let inside : w < length bits = omega (arith, is.bits_are) in
    let first : take w bits ≡ bits_in_tree symbols = stored_bits (tree_of symbols) starts nodes bits w 0 0 symbols.items is.stands (omega (arith, inside)) in
    let past : drop (suc w) bits ≡ [] = drop_all (suc w) bits (omega (arith, is.bits_are)) in
    let last : drop w bits ≡ false ∷ [] = drop-cons bits w true inside ∙ ap (λ (b : Bool). b ∷ drop (suc w) bits) is.ended ∙ ap (λ (l : List Bool). false ∷ l) past in
    sym (take-append-drop w bits) ∙ ap (λ (l : List Bool). l ++ drop w bits) first ∙ ap (λ (l : List Bool). bits_in_tree symbols ++ l) last

-- ---- what is saved

number_ended : (n : ℕ) (bits : List Bool) → number (take n (bits ++ false ∷ [])) ≡ number (take n bits)
number_ended zero bits = refl
number_ended (suc n) [] = nothing n
  where
    nothing : (n : ℕ) → number (false ∷ take n []) ≡ 0
    nothing zero = refl
    nothing (suc n) = refl
number_ended (suc n) (b ∷ bits) = ap (λ k. bit_value b + 2 * k) (number_ended n bits)

limb_ended : (bits : List Bool) (k : ℕ) → 64 * k < length bits → limb (bits ++ false ∷ []) k ≡ limb bits k
unfolding limb
limb_ended bits k inside = ap (λ (l : List Bool). number (take 64 l)) (drop-append-le (64 * k) bits (false ∷ []) (omega (arith, inside))) ∙ number_ended 64 (drop (64 * k) bits)

pub limb_saved : {symbols : Symbols} {starts : List ℕ} {nodes : List Node} {bits : List Bool} {root width len : ℕ} → IsTreeOf symbols starts nodes bits root width len
    → (k : ℕ) → 64 * k < length (bits_in_tree symbols) → (64 * k < length bits) × (limb bits k ≡ limb (bits_in_tree symbols) k)
limb_saved {symbols} {bits = bits} is k inside =
    let all = ended_bits is in
    (omega (arith, inside, ap length all, length-append (bits_in_tree symbols) (false ∷ [])), ap (λ (l : List Bool). limb l k) all ∙ limb_ended (bits_in_tree symbols) k inside)

pub count_saved : {symbols : Symbols} {starts : List ℕ} {nodes : List Node} {bits : List Bool} {root width len : ℕ} → IsTreeOf symbols starts nodes bits root width len → length bits ≡ length (bits_in_tree symbols) + 1
count_saved {symbols} is = ap length (ended_bits is) ∙ length-append (bits_in_tree symbols) (false ∷ [])

pub start_saved : {symbols : Symbols} {starts : List ℕ} {nodes : List Node} {bits : List Bool} {root width len : ℕ} → IsTreeOf symbols starts nodes bits root width len
    → (s : ℕ) → s ≤ 2 ^ symbols.width → (s < length starts) × (get_or starts s 0 ≡ get_or (starts_of symbols) s 0)
start_saved is s within = (omega (arith, within, (starts_many is).0), ap (λ (l : List ℕ). get_or l s 0) is.starts_are)
