-- How an ascending list is split into high and low parts, how much memory these take, and how much a query reads of them.
use Rattle.std.specs.Prelude.{ℕ, ◌+◌, ◌-◌, ◌*◌, ◌/◌, ◌%◌, ◌^◌, ◌==◌, ◌≡◌, max, Bool, true, List, map, length, slice_index, if◌then◌else◌}
use Rattle.std.specs.List.{range_with_len}
use Rattle.vers_bits.specs.Bits.{pack, limb_count, number, part, select}
use Rattle.vers_rank.specs.Queries.{index_size, select_reads, superblock_count}
use Rattle.vers_sorted.specs.Ones.{ones_at}
use Rattle.vers_tally.specs.Reads.{Reads, plus, times, digits}
pub use Rattle.vers_tally.specs.Reads.{clog}

-- the first element; 0 for the empty list
abbrev pub first_of : List ℕ → ℕ
first_of elements = slice_index elements 0

-- the last element; 0 for the empty list
abbrev pub last_of : List ℕ → ℕ
last_of elements = slice_index elements (length elements - 1)

-- how many bits a low part has, for n elements whose last is u above the first
unfoldable pub width : ℕ → ℕ → ℕ
width n u = max (clog (max u 2)) (clog (n + 2)) - clog (max n 2)

-- the same for the elements themselves
unfoldable pub low_width : List ℕ → ℕ
low_width elements = width (length elements) (last_of elements - first_of elements)

-- the high part of a number v: how many times 2 to the low width is in its distance from the first element
unfoldable pub high_of : List ℕ → ℕ → ℕ
high_of elements v = (v - first_of elements) / 2 ^ low_width elements

-- the low part of a number v: the rest of that division
unfoldable pub low_of : List ℕ → ℕ → ℕ
low_of elements v = (v - first_of elements) % 2 ^ low_width elements

-- how many bits the high parts take: a one for each element, and a zero for each high part up to one past the last element's
unfoldable pub high_length : List ℕ → ℕ
high_length elements = if length elements == 0 then 0 else 2 + length elements + high_of elements (last_of elements)

-- the position of the one of element i in the high parts
abbrev pub high_position : List ℕ → ℕ → ℕ
high_position elements i = high_of elements (slice_index elements i) + i + 1

-- the high parts: a one for each element
unfoldable pub high_parts : List ℕ → List Bool
high_parts elements = ones_at (map (high_position elements) (range_with_len 0 (length elements))) (high_length elements)

-- the low parts, one after another: the low digits of each element less the first
unfoldable pub low_parts : List ℕ → List Bool
low_parts elements = pack (map (λ m. m - first_of elements) elements) (low_width elements)

-- how many bits the low parts of n elements take, the last of which is u above the first
abbrev pub low_count : ℕ → ℕ → ℕ
low_count n u = n * width n u

-- how many bits the high parts of n elements take, the last of which is u above the first
abbrev pub high_count : ℕ → ℕ → ℕ
high_count n u = if n == 0 then 0 else 2 + n + u / 2 ^ width n u

-- a list's length, its first and last element, its low and its high parts
pub record ArePartsOf (elements : List ℕ) (n first last : ℕ) (low high : List Bool) : Type 0 where
  pub len_is : n ≡ length elements
  pub first_is : first ≡ first_of elements
  pub last_is : last ≡ last_of elements
  pub low_is : low ≡ low_parts elements
  pub high_is : high ≡ high_parts elements

-- the element that parts represent at position i: as far above the first as its high part, the zeros before its one but the first, and its low part
abbrev pub element : List Bool → List Bool → ℕ → ℕ → ℕ → ℕ
element high low first width i = first + (2 ^ width * (select true high i - i - 1) + number (part low (width * i) width))

-- the n elements that parts represent
unfoldable pub elements : List Bool → List Bool → ℕ → ℕ → ℕ → List ℕ
elements high low first width n = map (element high low first width) (range_with_len 0 n)

-- the bytes of the high parts with their index, and of the limbs of the low parts
abbrev pub heap_size_of : List ℕ → ℕ
heap_size_of elements = index_size (high_parts elements) + 8 * limb_count (length (low_parts elements))

-- what a number of selects of the high parts adds at most, with as many low parts
abbrev pub select_calls : ℕ → List ℕ → Reads
select_calls calls elements = record (times calls (select_reads (superblock_count (high_length elements)))) { low_parts = calls }

-- bound on reading one element, or two neighbouring ones
abbrev pub element_reads : List ℕ → Reads
element_reads elements = select_calls 2 elements

-- bound on a search
abbrev pub search_reads : List ℕ → Reads
search_reads elements = select_calls (digits (length elements) + 8) elements

-- bound on a search from the last successor on: one search, and 9 elements
abbrev pub next_reads : List ℕ → Reads
next_reads elements = plus (search_reads elements) (times 9 (element_reads elements))
