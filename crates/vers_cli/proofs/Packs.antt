-- Numbers of a line, packed as bits.
use Rattle.vers_cli.proofs.Names.{◌≡◌, ℕ, ◌*◌, ◌/◌, ◌%◌, ◌^◌, ◌<◌, ◌≤◌, Bool, true, List, [], ◌∷◌, ◌++◌, length, map, Option, Some, None, Result, Ok, Err, IfOk, refl, sym, ap, ◌∙◌, arith, option_map, nat_le, range_with_len, ne_eqb, cond_some, same_Some, get_or-map, length-map, length-map-range_with_len, get_or-map-range_with_len, number, pack, part, Symbols, Accepted, symbols_loaded, part_number, low_symbols, packed_symbols}
use Rattle.std.proofs.Math.Nat.{mul-div_cancel, mul-mod_left}
use Rattle.std.proofs.lemmas.Grind.{same_number_lists}
use Rattle.vers_bits.specs.Laws.{PackedElementsAreItems}
use Rattle.vers_bits.proofs.PublicLaws.{length-packed}

-- bits, and then those of further numbers
abbrev pub bits_then : List Bool → ℕ → Option (List ℕ) → Option (List Bool)
bits_then bits k others = option_map (λ numbers. bits ++ pack numbers k) others

-- the bits of packed items are whole items
pub whole_items : (items : List ℕ) (k : ℕ) → length (pack items k) % k ≡ 0
whole_items items k = ap (λ n. n % k) (length-packed (λ v. v) k items) ∙ mul-mod_left (length items) k

how_many : (items : List ℕ) (k : ℕ) → 1 ≤ k → length (pack items k) / k ≡ length items
how_many items k some = ap (λ n. n / k) (length-packed (λ v. v) k items) ∙ mul-div_cancel (length items) some

-- a part that has a number has this one
number_of_part : (bits : List Bool) (p n v : ℕ) → part_number bits p n ≡ Some v → number (part bits p n) ≡ v
unfolding part_number
number_of_part bits p n v h = (cond_some _ _ _ h).1

-- the symbols that packed numbers hold are their low digits
pub packed_are_low : (items : List ℕ) (k : ℕ) → 1 ≤ k → k ≤ 64 → PackedElementsAreItems → packed_symbols (pack items k) k ≡ low_symbols items k
unfolding packed_symbols low_symbols
packed_are_low items k some few law =
    let at : ℕ → ℕ = λ e. number (part (pack items k) (e * k) k) in
    let long : length (map at (range_with_len 0 (length (pack items k) / k))) ≡ length items =
    length-map-range_with_len at 0 (length (pack items k) / k) ∙ how_many items k some in
    rw (ne_eqb k 0 (λ none. omega (arith, none)))
    (same_number_lists _ _ (long ∙ sym (length-map items (λ y. y % 2 ^ k)))
    (λ e within.
    let inside : e < length items = rw long at within in
    get_or-map-range_with_len at 0 (length (pack items k) / k) e e 0 (rw (how_many items k some) inside) (omega arith)
    ∙ number_of_part (pack items k) (e * k) k _ (law items k e some few inside)
    ∙ sym (get_or-map (λ y. y % 2 ^ k) items e 0 0 inside)))

-- no symbols have no bits
pub no_symbols : (items : List ℕ) → low_symbols [] 0 ≡ low_symbols items 0
unfolding low_symbols
no_symbols items = refl

-- bits that numbers of j digits are packed in are whole items of k digits, where these are as many
pub packed_whole : (found : Option (List ℕ)) (bits : List Bool) (k j : ℕ) → j ≡ k → Some bits ≡ option_map (λ items. pack items j) found → length bits % k ≡ 0
packed_whole None bits k j same e = cc
packed_whole (Some items) bits k j same e = rw (same_Some bits (pack items j) e, same) (whole_items items k)

-- what a load line of symbols gives that is accepted
pub symbols_accepted : (found : Option (List ℕ)) (bits : List Bool) (k j : ℕ) (made : Symbols) → nat_le k 64 ≡ true → j ≡ k
    → Some bits ≡ option_map (λ items. pack items j) found → made.width ≡ k → ((items : List ℕ) → bits ≡ pack items k → made.items ≡ low_symbols items k)
    → Accepted made ≡ symbols_loaded (option_map (λ items. k ∷ items) found)
symbols_accepted None bits k j made narrow same e w s = cc
symbols_accepted (Some items) bits k j made narrow same e w s =
    rw narrow (ap (λ (l : List ℕ). Accepted (record { width = made.width; items = l })) (s items (same_Some bits (pack items j) e ∙ ap (pack items) same))
    ∙ ap (λ n. Accepted (record { width = n; items = low_symbols items k })) w)

-- what follows of each value that a call may give
pub if_ok_then : {T E : Type 0} (r : Result T E) (P Q : T → Type 0) → ((x : T) → P x → Q x) → IfOk r P → IfOk r Q
if_ok_then (Ok x) P Q more p = more x p
if_ok_then (Err e) P Q more p = tt
