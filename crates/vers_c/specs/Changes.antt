-- The changes of a list of bits.
use Rattle.std.specs.Prelude.{◌≡◌, ◌≢◌, ℕ, ◌-◌, ◌%◌, ◌==◌, Bool, nat_le, nat_lt, List, [], ◌∷◌, ◌++◌, length, take, slice_get, slice_set, Option, Some, None, option_map, if◌then◌else◌}
use Rattle.vers_bits.specs.Bits.{low_bits}
use Rattle.vers_c.specs.declared.change.Change.{Change}
use Rattle.vers_c.specs.declared.change.Change.TheVariants.{Push, Append, Set, DropLast}
use Rattle.vers_c.specs.declared.change.TheConstants.{CHANGES}
use Rattle.catalogue.specs.Structures.{Content, GrowingBits}
use Rattle.vers_c.specs.declared.status.TheConstants.{DONE, REFUSED, UNKNOWN, VACANT}

-- the list after a change with two numbers, unless these are refused
abbrev pub bits_changed : List Bool → Change → ℕ → ℕ → Option (List Bool)
bits_changed bits Push a b = Some (bits ++ (a % 2 == 1) ∷ [])
bits_changed bits Append a b = if nat_le b 64 then Some (bits ++ low_bits a b) else None
bits_changed bits Set a b = if nat_lt a (length bits) then Some (slice_set bits a (b % 2 == 1)) else None
bits_changed bits DropLast a b = Some (take (length bits - a) bits)

-- the same of a structure
abbrev pub structure_changed : Content → Change → ℕ → ℕ → Option Content
structure_changed (GrowingBits bits) change a b = option_map GrowingBits (bits_changed bits change a b)
structure_changed held change a b = None

-- a change, if there is one
abbrev pub changed_if : Content → Option Change → ℕ → ℕ → Option Content
changed_if held None a b = None
changed_if held (Some change) a b = structure_changed held change a b

-- the change of a code, which is its index in the table
abbrev pub changed_by_code : Content → ℕ → ℕ → ℕ → Option Content
changed_by_code held code a b = changed_if held (slice_get CHANGES code) a b

-- the same for a handle, which may be empty
abbrev pub contents_changed : Option Content → ℕ → ℕ → ℕ → Option (Option Content)
contents_changed None code a b = None
contents_changed (Some held) code a b = option_map Some (changed_by_code held code a b)

-- the status of numbers of a change, which are refused or not
abbrev pub numbers_status : Option (List Bool) → ℕ
numbers_status None = REFUSED
numbers_status (Some bits) = DONE

-- the status of a change, if there is one: only lists of bits that can change have some
abbrev pub change_status : Content → Option Change → ℕ → ℕ → ℕ
change_status (GrowingBits bits) (Some change) a b = numbers_status (bits_changed bits change a b)
change_status held change a b = UNKNOWN

-- the status of the change of a code
abbrev pub coded_status : Content → ℕ → ℕ → ℕ → ℕ
coded_status held code a b = change_status held (slice_get CHANGES code) a b

-- the same for a handle, which may be empty
abbrev pub changed_status : Option Content → ℕ → ℕ → ℕ → ℕ
changed_status None code a b = VACANT
changed_status (Some held) code a b = coded_status held code a b

-- the change was made if the status is 0, otherwise nothing changed
pub record IsChanged {X : Type 0} (wanted : Option X) (before after : X) (status : ℕ) : Type 0 where
  pub done : status ≡ DONE → wanted ≡ Some after
  pub left : status ≢ DONE → after ≡ before
