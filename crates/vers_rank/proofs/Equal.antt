-- Lists of bits with the same positions are equal.
use Rattle.vers_rank.proofs.Names.{◌≡◌, ℕ, ◌+◌, ◌<◌, Bool, true, false, List, length, get_or, refl, sym, ap, cases_Bool, ◌∙◌, arith, same_lists, is_bit, count, select, count_le_all, any_default, select_at, select_is_position, count_more_yes, IsPosition}

-- each position of l is one of m
module _ (b : Bool) (l m : List Bool) (long : length l ≡ length m) (many : count b l (length l) ≡ count b m (length m))
    (each : (r : ℕ) → r < count b l (length l) → select b l r ≡ select b m r) where
  position_of_both : (p : ℕ) → p < length l → is_bit b (get_or l p false) ≡ true → is_bit b (get_or m p false) ≡ true
  position_of_both p h on =
      let early : count b l p < count b l (length l) = omega (arith, count_more_yes b l p h on, count_le_all b l (p + 1)) in
      let here : select b m (count b l p) ≡ p = sym (each (count b l p) early) ∙ select_at b l (count b l p) p h on refl in
      let at : IsPosition b m (count b l p) (select b m (count b l p)) = select_is_position b m (count b l p) (omega arith) in
      ap (λ q. is_bit b (get_or m q false)) (sym here) ∙ at.holds

-- lists of one length with the same positions of a bit
pub same_positions : (b : Bool) (l m : List Bool) → length l ≡ length m → count b l (length l) ≡ count b m (length m)
    → ((r : ℕ) → r < count b l (length l) → select b l r ≡ select b m r) → l ≡ m
same_positions b l m long many each =
    same_lists l m long (λ k d h.
    let same : get_or l k false ≡ get_or m k false = grind (arith, cases_Bool b, cases_Bool (get_or l k false), cases_Bool (get_or m k false), position_of_both b l m long many each k h, position_of_both b m l (sym long) (sym many) (λ r few. sym (each r (omega arith))) k (omega arith)) in
    any_default l k d false h ∙ same ∙ any_default m k false d (omega arith))
