-- What the sources of symbols state about their items.
use Rattle.vers_wavelet.proofs.Names.{◌≡◌, ℕ, ◌+◌, ◌-◌, ◌*◌, ◌/◌, ◌%◌, ◌^◌, ◌<◌, ◌≤◌, Bool, false, List, length, get_or, take, take_all, take_more, low_symbols, nat_tests, mod-lt, drop, slice_get, Some, sym, ap, ◌∙◌, arith, bit_and, range_with_len, map, map-append, [], ◌∷◌, ◌++◌, packed_symbols, pow-le-pow_right, mod-eq_of_lt, div-mul-le_self, div-le_self, length-take, get_or-take, get_or-drop, drop-drop, drop-take, length-range_with_len, get_or-range_with_len, one_shl, and_mask, row_fits, pow_pos, slice_get-get_or, number, part, number-drop, number_below, digit, prefix}
use Rattle.std.proofs.lemmas.List.FromFn.{map-range_with_len_more}
use Rattle.vers_wavelet.proofs.Digits.{list_digit}

-- of a machine's number
pub word_prefix : (w n v : ℕ) → n < 64 → bit_and (v / 2 ^ (w - n)) (1 * 2 ^ n % 2 ^ 64 - 1) ≡ prefix w n v
unfolding prefix
word_prefix w n v h = ap (λ m. bit_and (v / 2 ^ (w - n)) (m - 1)) (one_shl n 64 h) ∙ and_mask (v / 2 ^ (w - n)) n

pub one_fits : (n : ℕ) → n < 64 → 1 ≤ 1 * 2 ^ n % 2 ^ 64
one_fits n h = omega (arith, one_shl n 64 h, pow_pos n)

-- of a list of bits
pub packed_digit : (bits : List Bool) (w e i : ℕ) → i < w → get_or bits (e * w + i) false ≡ digit (number (part bits (e * w) w)) i
packed_digit bits w e i h = sym (get_or-take w (drop (e * w) bits) i false h ∙ get_or-drop (e * w) bits i false) ∙ list_digit (part bits (e * w) w) i

pub packed_prefix : (bits : List Bool) (w n e : ℕ) → n ≤ w → number (part bits (e * w + (w - n)) n) ≡ prefix w n (number (part bits (e * w) w))
unfolding prefix
packed_prefix bits w n e h =
    let l : List Bool = part bits (e * w) w in
    let p : List Bool = part bits (e * w + (w - n)) n in
    let whole : w ≡ w - n + n = omega arith in
    let cut : drop (w - n) l ≡ p =
    ap (λ m. drop (w - n) (take m (drop (e * w) bits))) whole ∙ drop-take (w - n) n (drop (e * w) bits) ∙ ap (take n) (drop-drop (w - n) (e * w) bits) in
    let small : number p < 2 ^ n = number_below p n (omega (arith, length-take n (drop (e * w + (w - n)) bits))) in
    sym (mod-eq_of_lt small) ∙ ap (λ v. v % 2 ^ n) (ap number (sym cut) ∙ number-drop (w - n) l)

-- element e is inside
pub packed_inside : (n w e : ℕ) → 0 < w → e < n / w → e * w + w ≤ n
packed_inside n w e some h = omega (arith, row_fits e w (n / w) w h (omega arith), div-mul-le_self n w)

pub position_item : (n i : ℕ) → i < length (range_with_len 0 n) → slice_get (range_with_len 0 n) i ≡ Some i
position_item n i h = slice_get-get_or (range_with_len 0 n) i i h ∙ ap Some (get_or-range_with_len 0 n i i (omega (arith, length-range_with_len 0 n)) ∙ (let none : 0 + i ≡ i = omega arith in none))

-- the first n of the numbers of k bits each that bits encode
abbrev pub first_numbers : List Bool → ℕ → ℕ → List ℕ
first_numbers bits k n = map (λ e. number (part bits (e * k) k)) (range_with_len 0 n)

pub more_numbers : (bits : List Bool) (k n : ℕ) → first_numbers bits k (n + 1) ≡ first_numbers bits k n ++ number (part bits (n * k) k) ∷ []
more_numbers bits k n = map-range_with_len_more (λ e. number (part bits (e * k) k)) 0 n n (omega arith)

pub all_numbers : (bits : List Bool) (k n : ℕ) → n ≡ length bits / k → first_numbers bits k n ≡ packed_symbols bits k
unfolding packed_symbols
all_numbers bits k n is = ap (first_numbers bits k) is

-- each is a number of a type that has as many bits
pub fits_in : (bits : List Bool) (k e most : ℕ) → k ≤ most → number (part bits (e * k) k) < 2 ^ most
fits_in bits k e most few =
    let small : number (part bits (e * k) k) < 2 ^ k = number_below (part bits (e * k) k) k (omega (arith, length-take k (drop (e * k) bits))) in
    omega (arith, small, pow-le-pow_right {n = 2} (omega arith) {i = k} {j = most} few)

-- the k low digits of the first n numbers
abbrev pub first_low : List ℕ → ℕ → ℕ → List ℕ
first_low numbers k n = map (λ y. y % 2 ^ k) (take n numbers)

pub more_low : (numbers : List ℕ) (k n d : ℕ) → n < length numbers → first_low numbers k (n + 1) ≡ first_low numbers k n ++ get_or numbers n d % 2 ^ k ∷ []
more_low numbers k n d h = ap (map (λ y. y % 2 ^ k)) (take_more numbers n d h) ∙ map-append (λ y. y % 2 ^ k) (take n numbers) (get_or numbers n d ∷ [])

pub all_low : (numbers : List ℕ) (k n : ℕ) → 1 ≤ k → n ≡ length numbers → first_low numbers k n ≡ low_symbols numbers k
unfolding low_symbols
all_low numbers k n some is = grind (arith, nat_tests, some, take_all n numbers (omega (arith, is)))

-- they are masked
pub low_masked : (v k : ℕ) → k < 64 → bit_and v (1 * 2 ^ k % 2 ^ 64 - 1) ≡ v % 2 ^ k
low_masked v k few = ap (λ m. bit_and v (m - 1)) (one_shl k 64 few) ∙ and_mask v k

-- and fit in a type that has as many bits
pub low_fits : (v k most : ℕ) → k < 64 → k ≤ most → bit_and v (1 * 2 ^ k % 2 ^ 64 - 1) < 2 ^ most
low_fits v k most few narrow =
    omega (arith, low_masked v k few, mod-lt v (pow_pos k), pow-le-pow_right {n = 2} (omega arith) {i = k} {j = most} narrow)

pub ruleset words = (word_prefix, one_fits)

pub ruleset packed = (packed_digit, packed_prefix, packed_inside, div-le_self, length-range_with_len, position_item)

pub ruleset lowering = (more_low, all_low, low_masked, low_fits, one_fits, map-append)

pub ruleset unpacking = (more_numbers, all_numbers, packed_inside, fits_in, map-append)
