-- The names of a table.
use Rattle.vers_words.proofs.Imports.{◌≡◌, ℕ, Bool, true, false, List, [], ◌∷◌, Option, Some, map, find, bytes_eq, option_map, Bor, refl, if◌then◌else◌}
use Rattle.vers_words.specs.Names.{named}

-- one choice, seen in two ways
chosen : {X Y Z : Type 0} (f : X → Z) (g : Y → Z) (b : Bool) (x : X) (y : Y) (xs : Option X) (ys : Option Y) → f x ≡ g y → option_map f xs ≡ option_map g ys
    → option_map f (if b then Some x else xs) ≡ option_map g (if b then Some y else ys)
chosen f g true x y xs ys here there = rw here refl
chosen f g false x y xs ys here there = there

-- what the entry names that is found
pub named-entry : {N : Type 0} (table : List (Bor (List ℕ) × N)) (word : List ℕ)
    → option_map (λ entry. entry.1) (find (λ entry. bytes_eq entry.0.now word) table) ≡ named (map (λ entry. (entry.0.now, entry.1)) table) word
named-entry [] word = refl
named-entry (entry ∷ table) word = chosen (λ e. e.1) (λ e. e.1) (bytes_eq entry.0.now word) entry (entry.0.now, entry.1) _ _ refl (named-entry table word)
