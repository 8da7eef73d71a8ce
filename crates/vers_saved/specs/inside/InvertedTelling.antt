-- A proof that inverted indexes with the same words are the same index.
use Rattle.std.proofs.Common.{◌≡◌, ℕ, length, get_or, drop, ap}
use Rattle.std.proofs.lemmas.Map.Keys.{non_decreasing_from_sorted, sorted_from_strictly_increasing}
use Rattle.inverted.specs.Lists.{Lists}
use Rattle.inverted.specs.Numbers.{IsOfNumbers}
use Rattle.inverted.proofs.PublicLaws.{numbers_determine_index}
use Rattle.vers_saved.specs.Format.{inverted_words, sorted_words}
use Rattle.vers_saved.specs.inside.Telling.{sorted_tell}

-- inverted indexes by the number of terms, the universe and the words of the numbers
pub inverted_tell : (x y : Lists) → IsOfNumbers x → IsOfNumbers y → length (inverted_words x) ≡ length (inverted_words y) → ◌≡◌ {A = ℕ} 64 64 → inverted_words x ≡ inverted_words y → x ≡ y
inverted_tell x y is_x is_y long one same =
    let rest : sorted_words x.numbers ≡ sorted_words y.numbers = ap (drop 2) same in
    let up_x = non_decreasing_from_sorted _ (sorted_from_strictly_increasing _ is_x.ascending) in
    let up_y = non_decreasing_from_sorted _ (sorted_from_strictly_increasing _ is_y.ascending) in
    numbers_determine_index x y is_x is_y (ap (λ l. get_or l 0 0) same) (ap (λ l. get_or l 1 0) same) (sorted_tell x.numbers y.numbers up_x up_y (ap length rest) one rest)
