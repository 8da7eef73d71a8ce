-- Tables of names.
use Rattle.std.specs.Prelude.{ℕ, List, find, bytes_eq, Option, option_map}

-- the entry of a table of names whose name is the word, or `None`
abbrev pub named : {N : Type 0} → List (List ℕ × N) → List ℕ → Option N
named table word = option_map (λ entry. entry.1) (find (λ entry. bytes_eq entry.0 word) table)
