-- Lines answered one after another.
use Rattle.vers_engine.proofs.Names.{◌≡◌, ℕ, List, [], ◌∷◌, ◌++◌, refl, append_assoc, Answering, answers_of, held_after}

-- the answers of some lines, and then others
pub answers_of-append : {H : Type 0} (by : Answering H) (h : H) (ls ms : List (List ℕ)) → answers_of by h (ls ++ ms) ≡ answers_of by h ls ++ answers_of by (held_after by h ls) ms
answers_of-append by h [] ms = refl
answers_of-append by h (l ∷ ls) ms = rw (answers_of-append by (by.holding_after h l) ls ms, append_assoc) refl

-- what is held after some lines, and then others
pub held_after-append : {H : Type 0} (by : Answering H) (h : H) (ls ms : List (List ℕ)) → held_after by h (ls ++ ms) ≡ held_after by (held_after by h ls) ms
held_after-append by h [] ms = refl
held_after-append by h (l ∷ ls) ms = held_after-append by (by.holding_after h l) ls ms
