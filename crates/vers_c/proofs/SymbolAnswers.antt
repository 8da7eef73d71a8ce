-- What many queries of symbols find, as functions of the list.
use Rattle.vers_c.proofs.Names.{Bool, length, slice_get, map, Option, Some, None, true, false, arith, ◌&&◌, slice_range, nat_le, if◌then◌else◌, map-map, slice_get_past, Symbols, by_size, kth_by_size, occurrences, range_elements, as_word, low_bits_of, positions_of, rank_before, found_or_absent, if_numbers}
use Rattle.std.proofs.Common.{◌≡◌, ℕ, List, [], refl, sym, ap, ◌∙◌}

-- what many queries that were answered at once say
pub many_answers : {Q : Type 0} (symbols : Symbols) (answer given found : Q → Option ℕ) (before after : List Q) → map answer after ≡ map given before → ((q : Q) → given q ≡ (if nat_le symbols.width 64 then found q else None))
    → map (λ q. found_or_absent (answer q)) after ≡ map (λ q. if_numbers symbols (found q)) before
unfolding as_word
many_answers symbols answer given found before after made is =
    sym (map-map found_or_absent answer after) ∙ ap (map found_or_absent) made ∙ map-map found_or_absent given before
    ∙ (λ i. map (λ q. found_or_absent (is q i)) before)

element_inside : (inside : Bool) (range : List ℕ) (i : ℕ) → (if inside then slice_get (by_size range) i else None) ≡ slice_get (by_size (if inside then range else [])) i
element_inside true range i = refl
element_inside false range i = sym (slice_get_past [] i (omega arith))

-- a test after another one
both_tested : (a b : Bool) (found : Option ℕ) → (if a && b then found else None) ≡ (if a then (if b then found else None) else None)
both_tested true b found = refl
both_tested false b found = refl

-- a count of positions, if there are that many
pub rank_inside : (symbols : Symbols) (end s : ℕ) → (if nat_le symbols.width 64 && nat_le end (length symbols.items) then Some (length (occurrences symbols.items 0 end (low_bits_of symbols s))) else None)
    ≡ (if nat_le symbols.width 64 then rank_before symbols end s else None)
rank_inside symbols end s = both_tested (nat_le symbols.width 64) (nat_le end (length symbols.items)) (Some (length (positions_of symbols 0 end s)))

-- an element by size of a range that ends within the list, if it does
pub kth_inside : (width : ℕ) (items : List ℕ) (a b i : ℕ) → (if nat_le width 64 && nat_le b (length items) then slice_get (by_size (slice_range items a b)) i else None)
    ≡ (if nat_le width 64 then kth_by_size (range_elements items a b) i else None)
unfolding kth_by_size range_elements
kth_inside width items a b i = both_tested (nat_le width 64) (nat_le b (length items)) (slice_get (by_size (slice_range items a b)) i)
    ∙ ap (λ found. if nat_le width 64 then found else None) (element_inside (nat_le b (length items)) (slice_range items a b) i)
