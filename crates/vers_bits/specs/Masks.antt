-- Masks: the result of a closure for pairs of limbs, and bits combined one by one.
use Rattle.std.specs.Prelude.{◌≡◌, ◌≢◌, ℕ, ◌^◌, ◌<◌, Bool, not, List, [], ◌∷◌, length, if◌then◌else◌, Result, MatchResult}
use Rattle.vers_bits.specs.Bits.{masked}

-- a closure may be called on every pair of limbs
abbrev pub OnEveryPair : (ℕ → ℕ → Type 0) → Type 0
OnEveryPair pre = (x y : ℕ) → x < 2 ^ 64 → y < 2 ^ 64 → pre x y

-- each answer on a pair of limbs is that of g
abbrev pub AnswersAs : (ℕ → ℕ → ℕ → Type 0) → (ℕ → ℕ → ℕ) → Type 0
AnswersAs post g = (x y answer : ℕ) → x < 2 ^ 64 → y < 2 ^ 64 → post x y answer → answer ≡ g x y

-- P is true of what a closure makes of two lists, whatever function the closure computes
abbrev pub OfBoth : (ℕ → ℕ → ℕ → Type 0) → List Bool → List Bool → (List Bool → Type 0) → Type 0
OfBoth post xs ys P = (g : ℕ → ℕ → ℕ) → AnswersAs post g → P (masked g xs ys)

-- two lists, and the closure that combines their limbs
pub record Masking (F : Type 0) : Type 0 where
  pub left : List Bool
  pub right : List Bool
  pub mask : F

-- `OfBoth` for the two lists of a mask
abbrev pub OfMasked : {F : Type 0} → (ℕ → ℕ → ℕ → Type 0) → Masking F → (List Bool → Type 0) → Type 0
OfMasked post masking P = OfBoth post masking.left masking.right P

-- either the lists have equal length and P is true of the result, or they do not and the call returned an error
abbrev pub OfOneLength : {X Y E : Type 0} → Result X E → List Y → List Y → (X → Type 0) → Type 0
OfOneLength result xs ys P = MatchResult result (λ made. (length xs ≡ length ys) × P made) (λ _. length xs ≢ length ys)

-- either the lists have equal length and P is true of the change, or they do not, and the call returned an error and changed nothing
abbrev pub Applied : {X Y E : Type 0} → Result X E → (old new other : List Y) → Type 0 → Type 0
Applied result old new other P = MatchResult result (λ _. (length old ≡ length other) × P) (λ _. (length old ≢ length other) × (new ≡ old))

-- two lists combined bit by bit
abbrev pub zip_bits : (Bool → Bool → Bool) → List Bool → List Bool → List Bool
zip_bits f [] ys = []
zip_bits f (x ∷ xs) [] = []
zip_bits f (x ∷ xs) (y ∷ ys) = f x y ∷ zip_bits f xs ys

-- whether exactly one of two bits is a one
abbrev pub xor : Bool → Bool → Bool
xor x y = if x then not y else y
