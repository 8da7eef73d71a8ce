-- Where a byte is first in a text.
use Rattle.vers_words.proofs.Imports.{◌≡◌, ◌==◌, ◌+◌, ◌<◌, ◌≤◌, ℕ, Bool, false, List, [], ◌∷◌, ◌++◌, length, take, drop, get_or, Some, None, refl, arith, All, position, position_or_len, eqb-true, nat_tests, drop_more, take_more, get_or-take, length-take, position-Some}
use Rattle.std.proofs.lemmas.List.Elements.{All-from_get_or}
use Rattle.std.proofs.lemmas.List.Sums.{fails_before_first}

-- no element passes
pub position-None : (p : ℕ → Bool) (xs : List ℕ) → position p xs ≡ None → length xs ≤ position_or_len p xs
position-None p xs h = grind (arith, nat_tests)

-- the text lacks the byte
pub lacks : (c : ℕ) (text : List ℕ) → position (λ b. b == c) text ≡ None → All (λ b. (b == c) ≡ false) text
lacks c text h =
    let none = position-None (λ b. b == c) text h in
    All-from_get_or (λ b. (b == c) ≡ false) text 0 (λ k l. fails_before_first (λ b. b == c) text k 0 (omega (arith, none)))

-- what is before the byte lacks it
pub lacks_before : (c : ℕ) (text : List ℕ) (i : ℕ) → position (λ b. b == c) text ≡ Some i → All (λ b. (b == c) ≡ false) (take i text)
lacks_before c text i h =
    All-from_get_or (λ b. (b == c) ≡ false) (take i text) 0 (λ k l.
    let below : k < i = omega (arith, length-take i text) in
    rw get_or-take ((position-Some (λ b. b == c) text i 0 h).2 k below))

-- the byte is there
pub byte_at : (c : ℕ) (text : List ℕ) (i : ℕ) → position (λ b. b == c) text ≡ Some i → get_or text i 0 ≡ c
byte_at c text i h = eqb-true _ c (position-Some (λ b. b == c) text i 0 h).1

-- the text up to the byte, and what is after it
pub through_byte : (c : ℕ) (text : List ℕ) (i : ℕ) → position (λ b. b == c) text ≡ Some i → take (i + 1) text ≡ take i text ++ c ∷ []
through_byte c text i h = rw (take_more text i 0 (position-Some (λ b. b == c) text i 0 h).0, byte_at c text i h) refl

pub from_byte : (c : ℕ) (text : List ℕ) (i : ℕ) → position (λ b. b == c) text ≡ Some i → drop i text ≡ c ∷ drop (i + 1) text
from_byte c text i h = rw (drop_more text i 0 (position-Some (λ b. b == c) text i 0 h).0, byte_at c text i h) refl
