-- The laws that proofs of other crates may cite. A crate above imports this file and no other of this folder.
use Rattle.vers_words.proofs.Imports.{◌≡◌, ◌==◌, ◌+◌, ℕ, false, List, [], ◌∷◌, ◌++◌, take, Some, None, All, position}
use Rattle.vers_words.proofs.Positions as Positions

-- ---- the first position of a byte

-- a text in which a byte is at no position lacks it
pub lacks : (c : ℕ) (text : List ℕ) → position (λ b. b == c) text ≡ None → All (λ b. (b == c) ≡ false) text
lacks = Positions.lacks

-- what is before it lacks it
pub lacks_before : (c : ℕ) (text : List ℕ) (i : ℕ) → position (λ b. b == c) text ≡ Some i → All (λ b. (b == c) ≡ false) (take i text)
lacks_before = Positions.lacks_before

-- the text up to it ends with it
pub through_byte : (c : ℕ) (text : List ℕ) (i : ℕ) → position (λ b. b == c) text ≡ Some i → take (i + 1) text ≡ take i text ++ c ∷ []
through_byte = Positions.through_byte
