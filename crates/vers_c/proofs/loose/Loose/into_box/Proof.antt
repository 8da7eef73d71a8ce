-- `into_box`: the pointer and the allocator are passed on with all that the struct owns, and the call makes the box of them.
use Rattle.vers_c.proofs.Names.{T, Ura, Fn, Body, place, copy, assign, rv_opd, seq, return, inst_fn, Val, vptr, has_ty, WT, SProp, ent, id⊢, ftrue, fsep, flft, ◌⊑◌, Fun, fact, tables, tables_of, Memory, Routine, WpFn, Tables, fm_of, WpFn-mono, Logic, Item, at_ret, ‵, raw, ◌⊛◌, some, later, ◌$◌, ◌∵◌, !, qed, by, move, use1, join, split, split3, pick, rewrite, fsplit, fjoin, feq_i, suffices, await, done, whole, sub, stop, fld, no_more, and_then, of_opd, returns, enter, first, blocks, exec, alloc_all, pass_all, free_all, look_at, get, get_in, sets, lands_last, env, no, RattleType, block_ptr, plain, heard, nothing, only, calls_at_last, Ended, Clauses, triple_of, Triple, Contract, entered, says, Stays, stay_dropped, walk_of, ends_at, walk_Meets, token, Goes-blank, box_owns, Bx, D, R, P, B, args, box_ty, word, box_typed, handle, box_out}
use mathlib.Core.Path.{◌≡◌, refl, sym, subst, ap}
use mathlib.Core.List.{List, [], ◌∷◌, ◌++◌}
use types.Kit.{drop}
use Rattle.std_alloc.specs.contracts.boxed.Box.from_raw as callee
use Rattle.std_alloc.proofs.boxed.Box.from_raw.Symbol as callee_symbol
use Rattle.std_alloc.proofs.boxed.Box.from_raw.Met as callee_met
use Rattle.vers_c.proofs.Boxes.{box_is_word}
use Rattle.vers_c.specs.contracts.loose.Loose as loose
use Rattle.vers_c.specs.contracts.loose.Loose.into_box as f
use Rattle.vers_c.specs.contracts.loose.Loose.into_box.Key.{name as #self}
use Rattle.vers_c.proofs.loose.Loose.into_box.Statement as stated
use Rattle.vers_c.proofs.loose.Loose.into_box.Code as code

module _ (E : Bx) where
  -- the function at these types, what is left of it past the call, and what it ensures
  abbrev body : Fn
  body = inst_fn (args E) code.function

  abbrev past_call : Body
  past_call = seq (assign (place 0 []) (rv_opd (copy (place 4 [])))) return

  abbrev ends : Ended
  ends = f.ended E.row E.al.row E.al.g E.al.d E.al.drops

  abbrev From : RattleType
  From = loose.the_row (R E) (P E) E.al.g

  abbrev goes : Stays ends.signature.params ends.kept
  goes = (stay_dropped (plain (λ _. From)) no, tt)

  module _ {M : Type 1} {𝓤 : Ura M} (𝓛 : Logic 𝓤) (memory : Memory → SProp 𝓤) (run : Routine → Fun 𝓤) (𝓣 : Tables 𝓤 𝓛.H) where
    open 𝓛 use {H}

    abbrev clauses : Clauses 𝓤 ends
    clauses = f.clauses E.row E.al.row E.al.g E.al.d E.al.drops 𝓛 memory run

    abbrev Asked : Contract 𝓤
    Asked = triple_of 𝓛 (callee.signature E.row E.al.row E.al.g E.al.d E.al.drops) (callee.spec E.row E.al.row E.al.g E.al.d E.al.drops 𝓛 memory run)

    walk : Triple 𝓤 (𝓣.C (callee_symbol.name (args E))) Asked → (z : (walk_of 𝓛 ends goes clauses).Ghost)
        → ent 𝓤 ((walk_of 𝓛 ends goes clauses).pre z) (WpFn 𝓤 H 𝓣.C 𝓣.Λ body (z.0.4.0 ++ []) ((walk_of 𝓛 ends goes clauses).post z))
    walk known z =
        let κs = z.0.0 in let qs = z.0.1 in let Post = (walk_of 𝓛 ends goes clauses).post z in
        let as_box : D E = record { ptr = z.0.3.0.at; alloc = z.0.3.0.alloc; value = z.0.3.0.value } in
        let tokens : Item 𝓤 = ‵ (flft κs.0 qs.0) ⊛ ‵ (flft κs.1.0 qs.1.0) ⊛ ‵ ftrue in
        let lives : Item 𝓤 = raw (fact 𝓤 (κs.0 ⊑ E.row.lives)) ⊛ raw (fact 𝓤 (κs.1.0 ⊑ E.al.row.lives)) ⊛ ‵ ftrue in
        let Boxed : Val → Type 0 = λ v. T (has_ty (box_ty E) v) × WT v in
        qed 𝓛 ((tokens ⊛ ‵ (fsep ((B E).own_val as_box z.0.4.0) ftrue)) ∷ lives ∷ []) ∵ split ! $ move ! (1 ∷ []) $ fsplit ! $
        box_out E ! as_box z.0.4.0 (λ b o hv e ws fits. fjoin ! $
        let passed : Asked.Ghost = ((κs, qs, tt, (as_box.alloc, (block_ptr b o, tt)), (hv ∷ [], (vptr b o ∷ [], tt))), as_box.value) in
        let Γ : List (Item 𝓤) = ‵ (box_owns (token E.al as_box.alloc) (R E) (block_ptr b o) as_box.value) ∷ ‵ (handle E as_box.alloc hv) ∷ ‵ ftrue ∷ tokens ∷ lives ∷ [] in
        by ! (subst (λ (us : List Val). ent 𝓤 (types.Kit.⋆ 𝓛 Γ) (WpFn 𝓤 H 𝓣.C 𝓣.Λ body (us ++ []) Post)) (sym ws)
        (qed 𝓛 Γ ∵ enter ! 𝓣.C 𝓣.Λ body (word E hv b o ∷ []) _ $
        alloc_all ! (λ ls. pass_all ! refl (box_typed E hv b o fits, tt) $
        sets ! (of_opd ! (get_in ! (fld ! refl (stop !)) (sub ! 0 refl (whole !)))) refl (tt, tt) $
        sets ! (of_opd ! (get_in ! (fld ! refl (stop !)) (sub ! 1 refl (whole !)))) refl fits $
        first ! $ blocks ! $ sets ! (of_opd ! (get ! refl)) refl fits $
        -- [what the block owns; the allocator; nothing; the tokens; what the types outlive]
        move ! (2 ∷ []) $ feq_i ! (List Val) (vptr b o ∷ []) (vptr b o ∷ []) refl $ fjoin ! $ move ! (2 ∷ 0 ∷ []) $ fjoin ! $ move ! (2 ∷ 0 ∷ []) $ join ! $
        -- [the tokens with the arguments; what the block owns; what the types outlive]
        move ! (2 ∷ []) $ split3 ! $ move ! (2 ∷ []) $ drop ! $ move ! (1 ∷ 3 ∷ []) $ join ! $ move ! (1 ∷ 0 ∷ []) $ join ! $ move ! (1 ∷ 0 ∷ []) $ join ! $
        use1 𝓛 (raw (Asked.pre passed)) (id⊢ 𝓤 _) $
        calls_at_last ! (fm_of 𝓤 H 𝓛.laws 𝓣) Asked known passed (and_then ! (get ! refl) (and_then ! (get ! refl) (no_more !))) (λ u.
        use1 𝓛 (later (some (λ (r : D E). (tokens ⊛ ‵ ((B E).own_val r (u ∷ []))) ⊛ some (λ (_ : Unit {0} × (Unit {0} × Unit {0})). ‵ (fsep ftrue (fsep ftrue ftrue)) ⊛ (raw (fact 𝓤 (r.value ≡ as_box.value)) ⊛ raw (fact 𝓤 (r.alloc ≡ as_box.alloc))))))) (id⊢ 𝓤 _) $
        await ! tt $ pick ! (λ r. split ! $ move ! (1 ∷ []) $ pick ! (λ _. split3 ! $ drop ! $ heard ! (r.value ≡ as_box.value) (λ same. drop ! $ split ! $ move ! (1 ∷ []) $
        box_is_word E ! r (u ∷ []) (λ b' o' hw e' one fits'.
        rewrite ! 0 (λ (us : List Val). ‵ ((B E).own_val r us)) (sym one) refl $
        let boxed : Boxed u = subst Boxed (sym (ap only one)) (box_typed E hw b' o' fits') in
        lands_last ! refl boxed $ exec ! 𝓣.C 𝓣.Λ (env body.locals ls) past_call (at_ret (env body.locals ls) Post) $
        sets ! (of_opd ! (get ! refl)) refl boxed $ returns ! (look_at ! 0 refl) $ free_all ! refl $
        suffices ! _ (ends_at 𝓛 ends goes clauses z u r ((tt, (tt, tt)), tt) (tt, tt)) $ says ! same $
        nothing ! $ nothing ! $ fjoin ! $ join ! $ move ! (1 ∷ 0 ∷ []) $ join ! $ done !)))))))))

pub into_box_spec : {M : Type 1} → stated.statement M
unfolding tables_of
into_box_spec 𝓤 𝓛 𝓜 𝓡 wired X Z LX LZ g d dd allocator md =
    let E : Bx = record { row = X; laws = LX; al = record { row = Z; laws = LZ; g = g; d = d; drops = dd } } in
    let 𝓣 : Tables 𝓤 𝓛.H = tables_of 𝓤 𝓛.H 𝓜 (tables 𝓤 𝓛.H 𝓜 𝓡 𝓡.env) in
    entered 𝓤 𝓛.H (triple_of 𝓛 (ends E).signature (f.spec X Z g d dd 𝓛 𝓜.mem 𝓡.returns)) 𝓣.C 𝓣.Λ (#self (args E)) (body E) (code.unfolded 𝓤 𝓛.H 𝓜 𝓡 wired (X, (Z, tt)) d dd)
    (walk_Meets 𝓛 (ends E) (goes E) (Goes-blank 𝓛 2 (plain (λ _. From E)) no (λ κs x s. tt), tt) (clauses E 𝓛 𝓜.mem 𝓡.returns 𝓣) (WpFn 𝓤 𝓛.H 𝓣.C 𝓣.Λ (body E)) (WpFn-mono 𝓤 𝓛.H 𝓛.laws 𝓣 (body E))
    (walk E 𝓛 𝓜.mem 𝓡.returns 𝓣 (callee_met.met 𝓤 𝓛 𝓜 𝓡 (code.calls-std_alloc::boxed::Box::from_raw 𝓡.env wired) X Z LX LZ g d dd allocator md)))
