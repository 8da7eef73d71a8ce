-- The first bytes of a reader, and the others after them.
use Rattle.std.proofs.Common.{◌≡◌, ℕ, suc, ◌/◌, ◌<◌, ◌≤◌, List, ◌++◌, length, take, drop, Option, None, Some, Result, Ok, Err, append-nil, refl, sym, subst, ap, ◌∙◌, inl, inr, arith}
use Rattle.std.specs.Prelude.{map, slice_index, IfErr, IfSome}
use Rattle.std.specs.Simd.{first_chunks}
use Rattle.std.specs.Io.KnownBytes.{Consumes, IsAtEnd}
use Rattle.std.proofs.lemmas.Bool.{cases_lt}
use Rattle.std.proofs.lemmas.List.{length-append, length-drop, drop-append-le, take-append-le}
use Rattle.std.specs.Fmt.{option_append}
use Rattle.vers_saved.specs.declared.fault.LoadError.{LoadError}
use Rattle.vers_saved.specs.Format.{bytes_word, words_of}
use Rattle.vers_saved.specs.Faults.{fault_of}
use Rattle.vers_saved.specs.Streams.{IsRefused}
use Rattle.vers_files.specs.Forms.{kind_numbered, number_of_kind, form_fault, IsNoForm}

-- the third word of bytes
third : (bytes : List ℕ) (n : ℕ) → length bytes / 8 ≡ suc (suc (suc n)) → number_of_kind bytes ≡ bytes_word (take 8 (drop 8 (drop 8 bytes)))
unfolding words_of
third bytes n long = ap (λ k. slice_index (map bytes_word (first_chunks 8 k bytes)) 2) long

-- it is in the first 24 bytes
same_number : (front rest : List ℕ) → length front ≡ 24 → number_of_kind (front ++ rest) ≡ number_of_kind front
same_number front rest long =
    third (front ++ rest) (length rest / 8) (omega (arith, length-append front rest))
    ∙ ap (λ l. bytes_word (take 8 (drop 8 l))) (drop-append-le 8 front rest (omega arith))
    ∙ ap (λ l. bytes_word (take 8 l)) (drop-append-le 8 (drop 8 front) rest (omega (arith, length-drop 8 front)))
    ∙ ap bytes_word (take-append-le 8 (drop 8 (drop 8 front)) rest (omega (arith, length-drop 8 (drop 8 front), length-drop 8 front)))
    ∙ sym (third front 0 (omega arith))

-- a fault of the kind that the bytes in front name is that of the kind that all bytes name
named : (old mid : Option (List ℕ)) (front : List ℕ) (e : LoadError) → Consumes old mid front → length front ≤ 24 → (length front < 24 → IsAtEnd mid)
    → IsRefused (kind_numbered (number_of_kind front)) (option_append (Some front) mid) e → IsNoForm old e
named None mid front e c few end refused = inr (inr tt)
named (Some xs) None front e c few end refused = absurd c
named (Some xs) (Some ys) front e c few end refused = elim refused [
  | inl read ↦ inl read
  | inr rest ↦ elim rest [
    | inl memory ↦ inr (inl memory)
    | inr some ↦
        let same : number_of_kind (front ++ ys) ≡ number_of_kind front = elim (cases_lt (length front) 24) [
          | inl short ↦ ap number_of_kind (ap (λ l. front ++ l) (end short) ∙ append-nil front)
          | inr long ↦ same_number front ys (omega arith)
        ] in
        inr (inr (ap form_fault c ∙ ap (λ n. fault_of (kind_numbered n) (front ++ ys)) same ∙ some))
  ]
]

-- so that a load of that kind answers the fault of all bytes
pub named_fault : {T : Type 0} (r : Result T LoadError) (n : ℕ) (old mid whole : Option (List ℕ)) (front : List ℕ) → whole ≡ option_append (Some front) mid → n ≡ number_of_kind front
    → Consumes old mid front → length front ≤ 24 → (length front < 24 → IsAtEnd mid) → IfErr r (IsRefused (kind_numbered n) whole) → IfErr r (IsNoForm old)
named_fault (Ok v) n old mid whole front is is_number c few end refused = tt
named_fault (Err e) n old mid whole front is is_number c few end refused =
    named old mid front e c few end (subst (λ w. IsRefused (kind_numbered (number_of_kind front)) w e) is (subst (λ m. IsRefused (kind_numbered m) whole e) is_number refused))

-- bytes that begin with those in front name the same kind, and are what is read after them
pub front_form : (old mid : Option (List ℕ)) (front bytes : List ℕ) → Consumes old mid front → length front ≤ 24 → (length front < 24 → IsAtEnd mid) → old ≡ Some bytes
    → (number_of_kind bytes ≡ number_of_kind front) × (option_append (Some front) mid ≡ Some bytes)
front_form None mid front bytes c few end is = cc
front_form (Some xs) None front bytes c few end is = absurd c
front_form (Some xs) (Some ys) front bytes c few end is =
    let all : bytes ≡ front ++ ys = cc in
    let same : number_of_kind (front ++ ys) ≡ number_of_kind front = elim (cases_lt (length front) 24) [
      | inl short ↦ ap number_of_kind (ap (λ l. front ++ l) (end short) ∙ append-nil front)
      | inr long ↦ same_number front ys (omega arith)
    ] in
    (ap number_of_kind all ∙ same, ap Some (sym all))

-- what is true of the bytes in front and those after is true of all bytes
pub of_all : (old mid whole : Option (List ℕ)) (front : List ℕ) → whole ≡ option_append (Some front) mid → Consumes old mid front → (P : List ℕ → Type 0) → IfSome whole P → IfSome old P
of_all None mid whole front is c P holds = tt
of_all (Some xs) None whole front is c P holds = absurd c
of_all (Some xs) (Some ys) whole front is c P holds = subst P (sym c) (subst (λ w. IfSome w P) is holds)

-- the number that the bytes in front name is that of all bytes
pub of_number : (old mid : Option (List ℕ)) (front : List ℕ) → Consumes old mid front → length front ≤ 24 → (length front < 24 → IsAtEnd mid) → IfSome old (λ bytes. number_of_kind bytes ≡ number_of_kind front)
of_number None mid front c few end = tt
of_number (Some xs) mid front c few end = (front_form (Some xs) mid front xs c few end refl).0
