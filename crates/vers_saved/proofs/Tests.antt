-- The fault of bytes, by the tests in turn.
use Rattle.vers_saved.proofs.Names.{◌≡◌, ℕ, ◌/◌, ◌<◌, ◌≤◌, Bool, true, false, List, [], ◌∷◌, ◌++◌, length, refl, ◌∙◌, inl, inr, arith, Option, None, Some, nat_le, map, first_chunks, le-leb, nat_tests, Kind, LoadError, TooShort, BadLength, words_of, bytes_word, saved_size, first_failing, head_tests, body_tests, said_tests, tests_of, version_fault, words_said, ◌⊎◌, Memory}
use Rattle.vers_saved.proofs.WordBytes.{length-words_of}

-- tests, and then others
fault_first : (xs ys : List (Bool × LoadError)) (e : LoadError) → first_failing xs ≡ Some e → first_failing (xs ++ ys) ≡ Some e
fault_first [] ys e h = cc
fault_first ((true, f) ∷ xs) ys e h = fault_first xs ys e h
fault_first ((false, f) ∷ xs) ys e h = h

fault_then : (xs ys : List (Bool × LoadError)) → first_failing xs ≡ None → first_failing (xs ++ ys) ≡ first_failing ys
fault_then [] ys h = refl
fault_then ((true, f) ∷ xs) ys h = fault_then xs ys h
fault_then ((false, f) ∷ xs) ys h = cc

not_le : (m n : ℕ) → n < m → nat_le m n ≡ false
not_le m n h = grind (arith, nat_tests)

-- the tests after those of a head
abbrev pub later_tests : Kind → ℕ → List ℕ → List (Bool × LoadError)
later_tests kind size words =
    (nat_le (saved_size (words_said kind words)) size, TooShort) ∷ (nat_le size (saved_size (words_said kind words)), BadLength) ∷ said_tests kind words

pub few_bytes : (kind : Kind) (size : ℕ) (words : List ℕ) → size < 48 → first_failing (tests_of kind size words) ≡ Some TooShort
few_bytes kind size words h = rw (not_le 48 size h) refl

past_head : (kind : Kind) (size : ℕ) (words : List ℕ) → 48 ≤ size → first_failing (head_tests kind words) ≡ None
    → first_failing (tests_of kind size words) ≡ first_failing (later_tests kind size words)
past_head kind size words h none = rw (le-leb 48 size h) (fault_then (head_tests kind words) (later_tests kind size words) none)

pub bad_head : (kind : Kind) (size : ℕ) (words : List ℕ) (e : LoadError) → 48 ≤ size → first_failing (head_tests kind words) ≡ Some e → first_failing (tests_of kind size words) ≡ Some e
bad_head kind size words e h bad = rw (le-leb 48 size h) (fault_first (head_tests kind words) (later_tests kind size words) e bad)

pub too_short : (kind : Kind) (size : ℕ) (words : List ℕ) → 48 ≤ size → first_failing (head_tests kind words) ≡ None → size < saved_size (words_said kind words)
    → first_failing (tests_of kind size words) ≡ Some TooShort
too_short kind size words h none short = past_head kind size words h none ∙ rw (not_le (saved_size (words_said kind words)) size short) refl

long_enough : (kind : Kind) (size : ℕ) (words : List ℕ) → 48 ≤ size → first_failing (head_tests kind words) ≡ None → saved_size (words_said kind words) ≤ size
    → first_failing (tests_of kind size words) ≡ first_failing ((nat_le size (saved_size (words_said kind words)), BadLength) ∷ said_tests kind words)
long_enough kind size words h none long = past_head kind size words h none ∙ rw (le-leb (saved_size (words_said kind words)) size long) refl

pub too_long : (kind : Kind) (size : ℕ) (words : List ℕ) → 48 ≤ size → first_failing (head_tests kind words) ≡ None → saved_size (words_said kind words) < size
    → first_failing (tests_of kind size words) ≡ Some BadLength
too_long kind size words h none long = long_enough kind size words h none (omega arith) ∙ rw (not_le size (saved_size (words_said kind words)) long) refl

pub by_body : (kind : Kind) (size : ℕ) (words : List ℕ) → first_failing (head_tests kind words) ≡ None → size ≡ saved_size (words_said kind words)
    → first_failing (tests_of kind size words) ≡ first_failing (said_tests kind words)
by_body kind size words none exact = grind (arith, long_enough, le-leb)

pub fault_is : (kind : Kind) (bytes : List ℕ) → version_fault kind bytes ≡ first_failing (tests_of kind (length bytes) (words_of bytes))
unfolding version_fault
fault_is kind bytes = refl

-- the chunks of bytes are their words
pub words_are : (bytes : List ℕ) → map bytes_word (first_chunks 8 (length bytes / 8) bytes) ≡ words_of bytes
unfolding words_of
words_are bytes = refl

pub ruleset whole = (fault_is, words_are, few_bytes, bad_head, too_short, too_long, by_body, length-words_of)

-- bytes whose head is at fault
pub bad_bytes : (kind : Kind) (bytes : List ℕ) (e : LoadError) (chunks : List (List ℕ)) → chunks ≡ first_chunks 8 (length bytes / 8) bytes → 48 ≤ length bytes
    → first_failing (head_tests kind (map bytes_word chunks)) ≡ Some e → version_fault kind bytes ≡ Some e
bad_bytes kind bytes e chunks same long bad =
    fault_is kind bytes ∙ bad_head kind (length bytes) (words_of bytes) e long (rw (← words_are bytes, ← same) bad)

-- if bytes have the fault of what follows the head, or memory is lacking
pub told_of : (kind : Kind) (bytes : List ℕ) (rows bits : ℕ) (e : LoadError) (chunks : List (List ℕ)) → chunks ≡ first_chunks 8 (length bytes / 8) bytes
    → version_fault kind bytes ≡ first_failing (body_tests kind.order rows bits (words_of bytes))
    → (first_failing (body_tests kind.order rows bits (map bytes_word chunks)) ≡ Some e) ⊎ ((e ≡ Memory) × (first_failing (body_tests kind.order rows bits (map bytes_word chunks)) ≡ None))
    → (version_fault kind bytes ≡ Some e) ⊎ ((e ≡ Memory) × (version_fault kind bytes ≡ None))
told_of kind bytes rows bits e chunks same body told = rw (body, ← words_are bytes, ← same) told

-- if there is no fault, memory alone can be lacking
pub memory_alone : (fault : Option LoadError) (e : LoadError) → (fault ≡ Some e) ⊎ ((e ≡ Memory) × (fault ≡ None)) → fault ≡ None → e ≡ Memory
memory_alone fault e (inl is) none = cc
memory_alone fault e (inr memory) none = memory.0
