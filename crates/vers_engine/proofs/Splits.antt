-- A text split at a byte, as it grows.
use Rattle.vers_engine.proofs.Names.{◌≡◌, ◌==◌, ℕ, List, [], ◌∷◌, ◌++◌, false, inl, inr, refl, sym, ap, ◌∙◌, append_assoc, rules, slice_split, All, append-nil, eq-eqb, eqb_tells, front, last_element_or, ended_by, IsSplit}
use Rattle.std.proofs.lemmas.List.Elements.{All-push, All-append, All-head, All-tail}
use Rattle.std.proofs.lemmas.List.Splits.{slice_split_at, slice_split_none}

-- one part more
ended_by-push : (c : ℕ) (parts : List (List ℕ)) (l : List ℕ) → ended_by c (parts ++ l ∷ []) ≡ ended_by c parts ++ (l ++ c ∷ [])
ended_by-push c [] l = refl
ended_by-push c (p ∷ parts) l = ap (λ r. p ++ c ∷ r) (ended_by-push c parts l) ∙ sym (append_assoc p (c ∷ ended_by c parts) (l ++ c ∷ []))

-- the byte ends a part
pub IsSplit-end : (c : ℕ) (text : List ℕ) (parts : List (List ℕ)) (rest : List ℕ) → IsSplit c text parts rest → IsSplit c (text ++ c ∷ []) (parts ++ rest ∷ []) []
IsSplit-end c text parts rest h = record {
  joined = ap (λ t. t ++ c ∷ []) h.joined ∙ append_assoc (ended_by c parts) rest (c ∷ []) ∙ sym (ended_by-push c parts rest) ∙ sym (append-nil _);
  parts_lack = All-push (All (λ b. (b == c) ≡ false)) parts rest h.parts_lack h.rest_lacks;
  rest_lacks = search rules;
}

-- bytes without that byte are more of the rest
pub IsSplit-others : (c : ℕ) (text : List ℕ) (parts : List (List ℕ)) (rest bs : List ℕ) → All (λ b. (b == c) ≡ false) bs → IsSplit c text parts rest → IsSplit c (text ++ bs) parts (rest ++ bs)
IsSplit-others c text parts rest bs others h = record {
  joined = ap (λ t. t ++ bs) h.joined ∙ append_assoc (ended_by c parts) rest bs;
  parts_lack = h.parts_lack;
  rest_lacks = All-append (λ b. (b == c) ≡ false) rest bs h.rest_lacks others;
}

-- the text is split into these parts, some more and some rest
abbrev Grown : ℕ → List ℕ → List (List ℕ) → Type 0
Grown c text parts = (more : List (List ℕ)) × (after : List ℕ) × IsSplit c text (parts ++ more) after

-- from one byte more
Grown-from : (c b : ℕ) (bs text : List ℕ) (parts added : List (List ℕ)) → Grown c ((text ++ b ∷ []) ++ bs) (parts ++ added) → Grown c (text ++ b ∷ bs) parts
Grown-from c b bs text parts added w =
    (added ++ w.0, w.1, rw (← append_assoc parts added w.0, ← append_assoc text (b ∷ []) bs) w.2)

-- any further bytes keep the parts
pub IsSplit-more : (c : ℕ) (bs text : List ℕ) (parts : List (List ℕ)) (rest : List ℕ) → IsSplit c text parts rest → Grown c (text ++ bs) parts
IsSplit-more c [] text parts rest h = ([], rest, rw (append-nil, append-nil) h)
IsSplit-more c (b ∷ bs) text parts rest h =
    elim (eqb_tells b c) [
      | inl e ↦ Grown-from c b bs text parts (rest ∷ []) (IsSplit-more c bs _ _ [] (rw e.1 (IsSplit-end c text parts rest h)))
      | inr e ↦ Grown-from c b bs text parts []
          (IsSplit-more c bs _ _ (rest ++ b ∷ []) (rw append-nil (IsSplit-others c text parts rest (b ∷ []) (search rules) h)))
    ]

-- std's split gives the parts and the rest
pub slice_split-IsSplit : (c : ℕ) (text : List ℕ) (parts : List (List ℕ)) (rest : List ℕ) → IsSplit c text parts rest → slice_split (λ b. b == c) text ≡ parts ++ rest ∷ []
slice_split-IsSplit c text [] rest h = rw h.joined (slice_split_none _ rest h.rest_lacks)
slice_split-IsSplit c text (p ∷ parts) rest h =
    let tail : IsSplit c (ended_by c parts ++ rest) parts rest = record { joined = refl; parts_lack = All-tail (All (λ b. (b == c) ≡ false)) p parts h.parts_lack; rest_lacks = h.rest_lacks } in
    rw (h.joined, append_assoc) (slice_split_at (λ b. b == c) p c (ended_by c parts ++ rest) (All-head (All (λ b. (b == c) ≡ false)) p parts h.parts_lack) (eq-eqb c c refl) ∙ ap (λ l. p ∷ l) (slice_split-IsSplit c _ parts rest tail))

-- all but the last, and the last, of a list that ends in y
pub front-push : {X : Type 0} (xs : List X) (y : X) → front (xs ++ y ∷ []) ≡ xs
front-push [] y = refl
front-push (x ∷ []) y = refl
front-push (x ∷ z ∷ xs) y = ap (λ l. x ∷ l) (front-push (z ∷ xs) y)

pub last_element_or-push : {X : Type 0} (d : X) (xs : List X) (y : X) → last_element_or d (xs ++ y ∷ []) ≡ y
last_element_or-push d [] y = refl
last_element_or-push d (x ∷ xs) y = last_element_or-push x xs y
