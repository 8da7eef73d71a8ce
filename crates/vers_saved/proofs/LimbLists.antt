-- The limbs of bits that were made of limbs.
use Rattle.vers_saved.proofs.Names.{◌≡◌, ℕ, ◌+◌, ◌-◌, ◌*◌, ◌%◌, ◌^◌, ◌<◌, ◌≤◌, Bool, List, length, get_or, take, drop, sym, ap, ◌∙◌, inl, inr, arith, cases_lt, cases_eq, get_or_past, same_lists, take-take, take_all, drop-take, length-take, length-drop, pow_pos, mod-eq_of_lt, number, low_bits, limb, limbs, limb_count, pack, number-low_bits, number_below, number-take, length-limbs, length-packed, get_or-limbs, EndsPadded, places, element_in_pack}
use Rattle.vers_saved.proofs.WordBytes.{AreWords}

pub length-pack : (ws : List ℕ) → length (pack ws 64) ≡ 64 * length ws
length-pack ws = length-packed (λ w. w) 64 ws ∙ omega arith

-- the limb of the first r of bits that begin with a word
first_limb : (w r : ℕ) (bits : List Bool) → take 64 bits ≡ low_bits w 64 → w < 2 ^ 64 → (r < 64 → w < 2 ^ r) → number (take 64 (take r bits)) ≡ w
first_limb w r bits begin h small =
    let whole : number (take 64 bits) ≡ w = ap number begin ∙ number-low_bits w 64 ∙ mod-eq_of_lt h in
    elim (cases_lt r 64) [
      | inl few ↦
          ap number (take_all 64 (take r bits) (omega (arith, length-take r bits)) ∙ sym (take-take r 64 bits (omega arith)))
          ∙ number-take r (take 64 bits) ∙ ap (λ m. m % 2 ^ r) whole ∙ mod-eq_of_lt (small few)
      | inr many ↦ ap number (take-take 64 r bits many) ∙ whole
    ]

-- limb k of the first n bits of words
pub limb-first : (ws : List ℕ) (n k : ℕ) → k < length ws → 64 * k ≤ n → get_or ws k 0 < 2 ^ 64 → (n - 64 * k < 64 → get_or ws k 0 < 2 ^ (n - 64 * k))
    → limb (take n (pack ws 64)) k ≡ get_or ws k 0
unfolding limb
limb-first ws n k inside from h small =
    let whole : 64 * k + (n - 64 * k) ≡ n = omega arith in
    let position : k * 64 ≡ 64 * k = omega arith in
    ap (λ l. number (take 64 l)) (sym (ap (λ m. drop (64 * k) (take m (pack ws 64))) whole) ∙ drop-take (64 * k) (n - 64 * k) (pack ws 64))
    ∙ first_limb (get_or ws k 0) (n - 64 * k) (drop (64 * k) (pack ws 64)) (rw position at (element_in_pack ws 64 k inside)) h small

pub ends_small : (ws : List ℕ) (n k : ℕ) → k < limb_count n → EndsPadded n ws → n - 64 * k < 64 → get_or ws k 0 < 2 ^ (n - 64 * k)
ends_small ws n k h (inl whole) few = absurd (omega arith)
ends_small ws n k h (inr small) few =
    let last : limb_count n - 1 ≡ k = omega arith in
    let rest : n % 64 ≡ n - 64 * k = omega arith in
    rw (last, rest) at small

pub length-first : (ws : List ℕ) (n : ℕ) → length ws ≡ limb_count n → length (take n (pack ws 64)) ≡ n
length-first ws n e = length-take n (pack ws 64) ∙ omega (arith, length-pack ws)

-- words are the limbs of the bits that they have
pub limbs-first : (ws : List ℕ) (n : ℕ) → length ws ≡ limb_count n → AreWords ws → EndsPadded n ws → limbs (take n (pack ws 64)) ≡ ws
limbs-first ws n e h padded =
    let l : List Bool = take n (pack ws 64) in
    let long : length l ≡ n = length-first ws n e in
    let counted : limb_count (length l) ≡ length ws = ap limb_count long ∙ sym e in
    same_lists (limbs l) ws (length-limbs l ∙ counted) (λ k d small.
    let inside : k < length ws = omega (arith, length-limbs l) in
    let here : get_or (limbs l) k 0 ≡ get_or ws k 0 =
    get_or-limbs l k (omega arith) ∙ limb-first ws n k inside (omega arith) (h k) (ends_small ws n k (omega arith) padded) in
    grind (arith, places))

-- the limbs of a list are words, and end padded
pub limbs_fit : (l : List Bool) → AreWords (limbs l)
unfolding limb
limbs_fit l k = elim (cases_lt k (limb_count (length l))) [
  | inl small ↦ rw (get_or-limbs l k small) (number_below (take 64 (drop (64 * k) l)) 64 (omega (arith, length-take 64 (drop (64 * k) l))))
  | inr large ↦ rw (get_or_past (limbs l) k 0 (omega (arith, length-limbs l))) (pow_pos 64)
]

pub limbs_padded : (l : List Bool) → EndsPadded (length l) (limbs l)
unfolding limb
limbs_padded l = elim (cases_eq (length l % 64) 0) [
  | inl whole ↦ inl whole
  | inr part ↦
      let from : ℕ = 64 * (limb_count (length l) - 1) in
      inr (rw (get_or-limbs l (limb_count (length l) - 1) (omega arith))
      (number_below (take 64 (drop from l)) (length l % 64) (omega (arith, length-take 64 (drop from l), length-drop from l))))
]
