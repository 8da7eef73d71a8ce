-- Lists of symbols: the occurrences of a symbol in a range, and the elements of a range by size.
-- A symbol is a number; a range from a to b has the elements from position a to before position b.
use Rattle.std.specs.Prelude.{ℕ, zero, suc, ◌+◌, ◌-◌, ◌*◌, ◌<◌, ◌≤◌, ◌==◌, Bool, List, [], ◌∷◌, length, slice_index, slice_get, slice_range, filter, find, map, count_by, min, nat_lt, nat_le, All, Contains, Option, None, if◌then◌else◌}
use Rattle.std.specs.Int.{bit_at}
use Rattle.std.specs.List.{range_with_len, sum_by, last_or}
use Rattle.vers_bits.specs.Bits.{low_bits}
use Rattle.vers_rank.specs.Queries.{index_size}

-- a width, and a list of numbers of at most that many binary digits
pub record Symbols : Type 0 where
  pub width : ℕ
  pub items : List ℕ

-- the positions from a to before b that have the symbol s, ascending
unfoldable pub occurrences : List ℕ → ℕ → ℕ → ℕ → List ℕ
occurrences items a b s = filter (λ p. slice_index items p == s) (range_with_len a (b - a))

-- the number that the k lowest digits of s make in reverse order
unfoldable pub reversed_digits : ℕ → ℕ → ℕ
reversed_digits zero s = 0
reversed_digits (suc k) s = 2 * reversed_digits k s + bit_at s k

-- how many symbols precede s in the order of their reversed digits, which gathers equal symbols
abbrev pub gathered_before : Symbols → ℕ → ℕ
gathered_before symbols s = count_by (λ y. nat_lt (reversed_digits symbols.width y) (reversed_digits symbols.width s)) symbols.items

-- the index in bit-reversed order of the first s from a position; equal symbols keep the order of their positions
abbrev pub gathered : Symbols → ℕ → ℕ → ℕ
gathered symbols position s = gathered_before symbols s + length (occurrences symbols.items 0 position s)

-- a is a position of the list, and b is from a to the length of the list
abbrev pub BeginsInside : ℕ → ℕ → List ℕ → Type 0
BeginsInside a b items = (a < length items) × (b ≤ length items) × (a ≤ b)

-- a number inserted into an ascending list, before the first element that is at least it
abbrev pub placed : ℕ → List ℕ → List ℕ
placed x [] = x ∷ []
placed x (y ∷ ys) = if nat_le x y then x ∷ y ∷ ys else y ∷ placed x ys

-- the elements of a list in ascending order, duplicates included
abbrev pub by_size : List ℕ → List ℕ
by_size [] = []
by_size (x ∷ xs) = placed x (by_size xs)

-- the elements from position a to before position b, in order; none if b is past the end
unfoldable pub range_elements : List ℕ → ℕ → ℕ → List ℕ
range_elements items a b = if nat_le b (length items) then slice_range items a b else []

-- element i of a list by size, from 0, counting duplicates; `None` if there are at most i
unfoldable pub kth_by_size : List ℕ → ℕ → Option ℕ
kth_by_size items i = slice_get (by_size items) i

-- the greatest element that is at most s, or `None`
unfoldable pub greatest_up_to : List ℕ → ℕ → Option ℕ
greatest_up_to items s = last_or None (filter (λ y. nat_le y s) (by_size items))

-- the least element that is at least s, or `None`
unfoldable pub least_from : List ℕ → ℕ → Option ℕ
least_from items s = find (λ y. nat_le s y) (by_size items)

-- an answer that needs symbols to be machine words: `None` if they have more than 64 bits
unfoldable pub as_word : (width : ℕ) → Option ℕ → Option ℕ
as_word width answer = if nat_le width 64 then answer else None

-- x is element i of the list by size, from 0, counting duplicates: at most i elements are less than x, and more than i are at most x
pub record IsKth (items : List ℕ) (i x : ℕ) : Type 0 where
  pub less : count_by (λ y. nat_lt y x) items ≤ i
  pub more : i < count_by (λ y. nat_le y x) items

-- x is the greatest element of the list that is at most s
pub record IsPredecessor (items : List ℕ) (s x : ℕ) : Type 0 where
  pub element : Contains items x
  pub within : x ≤ s
  pub greatest : All (λ y. y ≤ s → y ≤ x) items

-- x is the least element of the list that is at least s
pub record IsSuccessor (items : List ℕ) (s x : ℕ) : Type 0 where
  pub element : Contains items x
  pub within : s ≤ x
  pub least : All (λ y. s ≤ y → x ≤ y) items

-- the elements of a list in ascending order if the flag asks for it, otherwise in their order
abbrev pub ordered : Bool → List ℕ → List ℕ
ordered ascending items = if ascending then by_size items else items

-- each number as the list of its k low bits
abbrev pub in_bits : ℕ → List ℕ → List (List Bool)
in_bits k numbers = map (λ y. low_bits y k) numbers

-- binary digit j of each number, as bits
abbrev pub digit_list : ℕ → List ℕ → List Bool
digit_list j numbers = map (λ y. bit_at y j == 1) numbers

-- the bytes of one indexed list of bits for each digit of the symbols, or the greatest `usize` if they are more
abbrev pub matrix_size : Symbols → ℕ
matrix_size symbols = min (sum_by (λ j. index_size (digit_list j symbols.items)) (range_with_len 0 symbols.width)) 18446744073709551615
