-- The laws of inverted indexes, as statements.
use Rattle.std.specs.Prelude.{◌≡◌, ℕ, List, length}
use Rattle.inverted.specs.Lists.{Lists}
use Rattle.inverted.specs.Numbers.{IsOfNumbers, index_of_numbers}

-- an index of numbers has a list for each term
abbrev pub EachTermHasList : Type 0
EachTermHasList = (terms universe : ℕ) (numbers : List ℕ) → length (index_of_numbers terms universe numbers).lists ≡ terms

-- two indexes with the same number of terms, the same universe and the same numbers are equal
abbrev pub NumbersDetermineIndex : Type 0
NumbersDetermineIndex = (one other : Lists) → IsOfNumbers one → IsOfNumbers other
    → length one.lists ≡ length other.lists → one.universe ≡ other.universe → one.numbers ≡ other.numbers → one ≡ other
