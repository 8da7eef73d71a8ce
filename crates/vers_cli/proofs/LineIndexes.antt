-- The limits and the pairs of an index, as the numbers of a line write them.
use Rattle.vers_cli.proofs.Names.{◌≡◌, ◌%◌, ◌==◌, ℕ, Bool, true, false, List, [], ◌∷◌, length, Option, Some, None, refl, ap, ◌∙◌, arith, option_map, option_and_then, number_of, all_numbers, first_numbers, first_then, is_accepted}
use Rattle.std.specs.Prelude.{is_none}
use Rattle.inverted.specs.Lists.{Lists}
use Rattle.inverted.specs.declared.fault.InvertedError.{InvertedError}
use Rattle.vers_cli.specs.Loads.{accepted_unless, index_parts, pairs_in, pairs_of}
use Rattle.vers_cli.proofs.Rises.{all_first}

-- ---- pairs of numbers

even_pairs : (numbers : List ℕ) → length numbers % 2 ≡ 0 → pairs_of numbers ≡ Some (pairs_in numbers)
even_pairs [] h = refl
even_pairs (n ∷ []) h = absurd (omega (arith, h))
even_pairs (m ∷ n ∷ more) h = rw (even_pairs more (omega (arith, h))) refl

odd_pairs : (numbers : List ℕ) → (length numbers % 2 ≡ 0 → ⊥) → pairs_of numbers ≡ None
odd_pairs [] h = absurd (h refl)
odd_pairs (n ∷ []) h = refl
odd_pairs (m ∷ n ∷ more) h = rw (odd_pairs more (λ e. h (omega (arith, e)))) refl

-- one number is no pair
pub lone : (n : Option ℕ) → pairs_in (first_then n []) ≡ []
lone None = refl
lone (Some n) = refl

-- ---- the parts of a line

module _ (first second : List ℕ) (words : List (List ℕ)) (terms universe : ℕ) (one : number_of first ≡ Some terms) (other : number_of second ≡ Some universe) where
  parts_are : (found : Option (List ℕ)) → all_numbers words ≡ found
      → option_and_then index_parts (all_numbers (first ∷ second ∷ words)) ≡ option_and_then (λ numbers. option_map (λ pairs. (terms, universe, pairs)) (pairs_of numbers)) found
  parts_are None e = rw (one, other, e) refl
  parts_are (Some numbers) e = rw (one, other, e) refl

  counted : (count : ℕ) (found : Option (List ℕ)) → all_numbers words ≡ found → Some count ≡ option_map length found → count % 2 ≡ 0
      → Some (terms, universe, pairs_in (first_numbers words)) ≡ option_and_then index_parts (all_numbers (first ∷ second ∷ words))
  counted count None e counts even = cc
  counted count (Some numbers) e counts even =
      let long : count ≡ length numbers = cc in
      rw (parts_are (Some numbers) e, all_first words numbers e, even_pairs numbers (rw long at even)) refl

  uncounted : (count : ℕ) (found : Option (List ℕ)) → all_numbers words ≡ found → Some count ≡ option_map length found → (count % 2 ≡ 0 → ⊥)
      → None ≡ option_and_then index_parts (all_numbers (first ∷ second ∷ words))
  uncounted count None e counts odd = cc
  uncounted count (Some numbers) e counts odd =
      let long : count ≡ length numbers = cc in
      rw (parts_are (Some numbers) e, odd_pairs numbers (rw long at odd)) refl

  pub even_parts : (count : ℕ) → Some count ≡ option_map length (all_numbers words) → count % 2 ≡ 0
      → Some (terms, universe, pairs_in (first_numbers words)) ≡ option_and_then index_parts (all_numbers (first ∷ second ∷ words))
  even_parts count counts even = counted count (all_numbers words) refl counts even

  pub odd_parts : (count : ℕ) → Some count ≡ option_map length (all_numbers words) → (count % 2 ≡ 0 → ⊥)
      → None ≡ option_and_then index_parts (all_numbers (first ∷ second ∷ words))
  odd_parts count counts odd = uncounted count (all_numbers words) refl counts odd

-- an index is accepted unless there is a reason against it
pub accepted_if_none : (reason : Option InvertedError) (index : Lists) → is_none reason ≡ is_accepted (accepted_unless reason index)
accepted_if_none None index = refl
accepted_if_none (Some reason) index = refl
