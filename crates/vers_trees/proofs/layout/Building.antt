-- The excess of a list of parentheses that is built.
use Rattle.vers_trees.proofs.Names.{◌≡◌, ℕ, ◌<◌, ◌≤◌, Bool, List, [], ◌∷◌, ◌++◌, length, ℤ, pos, ◌+ℤ◌, FitsSigned, to_z, of_z, false, arith, length-append, sym, refl, ap, ◌∙◌, w64, ints, to_z-of_z, get_or_at, excess, bit_step, Forest, text, IsBalanced, forest_of, IsBuilding}
use Rattle.vers_trees.proofs.grammar.Excess.{excess-zero, excess-append_left, excess_after_bit}
use Rattle.vers_trees.proofs.grammar.Grammar.{forest_of-text}
use Rattle.vers_trees.proofs.searches.Scans.{rise_fits, step_fits}

pub nothing_built : (size : ℕ) (l : List Bool) → l ≡ [] → 0 < size → size ≤ 4294967296 → IsBuilding size l (pos 0)
nothing_built size l e so b = rw e (record { short = omega arith; some = so; bounded = b; sum = excess-zero [] })

pub one_more_built : (size : ℕ) (l : List Bool) (b : Bool) (total : ℤ) → IsBuilding size l total → length l < 9223372036854775807 → IsBuilding size (l ++ b ∷ []) (total +ℤ bit_step b)
one_more_built size l b total h room = grind (arith, length-append, excess_after_bit (l ++ b ∷ []) (length l) false, excess-append_left l (b ∷ []) (length l), get_or_at l b [] false (length l) refl)

-- the excess of a list that is not too long fits
pub built_fits : (size : ℕ) (l : List Bool) (total : ℤ) → IsBuilding size l total → FitsSigned w64 total
built_fits size l total h = let z = excess-zero l in rise_fits l 0 (length l) total h.short (omega arith) (omega arith) (omega (arith, ints))

-- where the machine has it as 0 it is 0
pub even_built : (size : ℕ) (l m : List Bool) (total : ℤ) → IsBuilding size l total → of_z w64 total ≡ 0 → l ≡ m → excess m (length m) ≡ pos 0
even_built size l m total h z e = rw (← e) (h.sum ∙ sym (to_z-of_z w64 total (built_fits size l total h)) ∙ ap (to_z w64) z)

-- the excess with one more bit, as the machine has it
pub stored_sum : (size : ℕ) (l : List Bool) (b : Bool) (total d : ℤ) → IsBuilding size l total → length l < 9223372036854775807 → d ≡ bit_step b → FitsSigned w64 (to_z w64 (of_z w64 total) +ℤ to_z w64 (of_z w64 d)) × (to_z w64 (of_z w64 (to_z w64 (of_z w64 total) +ℤ to_z w64 (of_z w64 d))) ≡ total +ℤ bit_step b)
stored_sum size l b total d h room e =
    let f = built_fits size (l ++ b ∷ []) (total +ℤ bit_step b) (one_more_built size l b total h room) in
    rw (to_z-of_z w64 total (built_fits size l total h), to_z-of_z w64 d (step_fits b d e), e) (f, to_z-of_z w64 (total +ℤ bit_step b) f)

-- a tree of the steps is for the forest that they write down
pub forest_built : (t l : List Bool) (F : Forest) → t ≡ l → text F ≡ l → IsBalanced t × (forest_of t ≡ F)
forest_built t l F e h = (record { forest = F; written = h ∙ sym e }, ap forest_of (e ∙ sym h) ∙ forest_of-text F)
