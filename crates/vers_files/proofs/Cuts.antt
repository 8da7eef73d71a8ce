-- Numbers of a line that have more bits than a width.
use Rattle.std.proofs.Common.{ℕ, ◌+◌, List, Option}
use Rattle.std.specs.Prelude.{option_map}
use Rattle.vers_files.specs.CutSymbols.{cut_among}

-- how many there are, and how many of further numbers
abbrev pub cut_then : ℕ → ℕ → Option (List ℕ) → Option ℕ
cut_then width n others = option_map (λ more. n + cut_among width more) others
