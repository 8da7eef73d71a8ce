-- `of`: the call takes all that the box owns and gives it back beside a pair, whose pointer and allocator the struct keeps.
use Rattle.vers_c.proofs.Names.{Ura, Fn, Args, Dict, a_type, dcons, dnil, inst_fn, Val, vstruct, of_list, SProp, ent, id⊢, never, fst∗, ftrue, fsep, flft, ◌⊑◌, Fun, fact, tables, tables_of, Memory, Routine, WpFn, Tables, fm_of, WpFn-mono, Logic, sem, Item, ‵, raw, ◌⊛◌, some, later, ◌$◌, ◌∵◌, !, qed, by, move, use1, join, split, split3, pick, rewrite, fsplit, fjoin, suffices, await, done, whole, sub, agg, stop, fld, no_more, and_then, of_opd, returns, enter, alloc_all, pass_all, free_all, look_at, get, get_in, sets, lands_as, no, bounded, RattleType, Ptr, RawPtr, block_ptr, null_ptr, ptr_val, in_a_block, plain, heard, nothing, only, Tuple, calls_at, Ended, Clauses, triple_of, Triple, Contract, entered, says, Stays, stay_dropped, walk_of, ends_at, walk_Meets, token, Goes-blank, box_owns, Bx, D, τ, R, P, B, word, box_typed, handle, box_in}
use mathlib.Core.Path.{◌≡◌, refl, sym, subst, ap, ◌∙◌}
use mathlib.Core.List.{List, [], ◌∷◌, ◌++◌}
use mir.Raw.{raw as bare}
use types.Kit.{drop}
use Rattle.std_alloc.specs.contracts.boxed.Box.into_raw_with_allocator as callee
use Rattle.std_alloc.proofs.boxed.Box.into_raw_with_allocator.Symbol as callee_symbol
use Rattle.std_alloc.proofs.boxed.Box.into_raw_with_allocator.Met as callee_met
use Rattle.vers_c.proofs.Boxes.{box_is_word, pair_is_word}
use Rattle.vers_c.specs.contracts.loose.Loose as loose
use Rattle.vers_c.specs.contracts.loose.Loose.of as f
use Rattle.vers_c.specs.contracts.loose.Loose.of.Key.{name as #self}
use Rattle.vers_c.proofs.loose.Loose.of.Statement as stated
use Rattle.vers_c.proofs.loose.Loose.of.Code as code

module _ (E : Bx) (drops : Dict) where
  -- the function at these types, and what it ensures
  abbrev at_types : Args
  at_types = bounded (a_type ∷ a_type ∷ []) (E.row, (E.al.row, tt)) (dcons E.al.d (dcons E.al.drops (dcons drops dnil)))

  abbrev body : Fn
  body = inst_fn at_types code.function

  abbrev ends : Ended
  ends = f.ended E.row E.al.row E.al.g E.al.d E.al.drops drops

  abbrev goes : Stays ends.signature.params ends.kept
  goes = (stay_dropped (plain (λ _. B E)) no, tt)

  abbrev Made : RattleType
  Made = loose.the_row (R E) (P E) E.al.g

  module _ {M : Type 1} {𝓤 : Ura M} (𝓛 : Logic 𝓤) (memory : Memory → SProp 𝓤) (run : Routine → Fun 𝓤) (𝓣 : Tables 𝓤 𝓛.H) where
    open 𝓛 use {H}

    abbrev clauses : Clauses 𝓤 ends
    clauses = f.clauses E.row E.al.row E.al.g E.al.d E.al.drops drops 𝓛 memory run

    abbrev Asked : Contract 𝓤
    Asked = triple_of 𝓛 (callee.signature E.row E.al.row E.al.g E.al.d E.al.drops drops) (callee.spec E.row E.al.row E.al.g E.al.d E.al.drops drops 𝓛 memory run)

    walk : Triple 𝓤 (𝓣.C (callee_symbol.name at_types)) Asked → (z : (walk_of 𝓛 ends goes clauses).Ghost)
        → ent 𝓤 ((walk_of 𝓛 ends goes clauses).pre z) (WpFn 𝓤 H 𝓣.C 𝓣.Λ body (z.0.4.0 ++ []) ((walk_of 𝓛 ends goes clauses).post z))
    walk known z =
        let κs = z.0.0 in let qs = z.0.1 in let owner = z.0.3.0 in let Post = (walk_of 𝓛 ends goes clauses).post z in
        let Owned : Ptr → Item 𝓤 = λ p. ‵ (box_owns (token E.al owner.alloc) (R E) p owner.value) in
        let tokens : Item 𝓤 = ‵ (flft κs.0 qs.0) ⊛ ‵ (flft κs.1.0 qs.1.0) ⊛ ‵ ftrue in
        let lives : Item 𝓤 = raw (fact 𝓤 (κs.0 ⊑ E.row.lives)) ⊛ raw (fact 𝓤 (κs.1.0 ⊑ E.al.row.lives)) ⊛ ‵ ftrue in
        qed 𝓛 ((tokens ⊛ ‵ (fsep ((B E).own_val owner z.0.4.0) ftrue)) ∷ lives ∷ []) ∵ split ! $ move ! (1 ∷ []) $ fsplit ! $
        box_is_word E ! owner z.0.4.0 (λ b o hv e ws fits.
        let passed : Asked.Ghost = ((κs, qs, tt, (owner, tt), (word E hv b o ∷ [], tt)), tt) in
        let Γ : List (Item 𝓤) = ‵ ((B E).own_val owner (word E hv b o ∷ [])) ∷ ‵ ftrue ∷ tokens ∷ lives ∷ [] in
        by ! (subst (λ (us : List Val). ent 𝓤 (types.Kit.⋆ 𝓛 Γ) (WpFn 𝓤 H 𝓣.C 𝓣.Λ body (us ++ []) Post)) (sym ws)
        (qed 𝓛 Γ ∵ enter ! 𝓣.C 𝓣.Λ body (word E hv b o ∷ []) _ $
        alloc_all ! (λ ls. pass_all ! refl (box_typed E hv b o fits, tt) $
        sets ! (of_opd ! (get ! refl)) refl (box_typed E hv b o fits) $
        -- [the tokens with the box; what the types outlive]
        fjoin ! $ move ! (1 ∷ 0 ∷ []) $ join ! $ join ! $ use1 𝓛 (raw (Asked.pre passed)) (id⊢ 𝓤 _) $
        calls_at ! (fm_of 𝓤 H 𝓛.laws 𝓣) Asked known passed (and_then ! (get ! refl) (no_more !)) (λ u.
        use1 𝓛 (later (some (λ (pair : Ptr × E.al.row.Denot). (tokens ⊛ ‵ ((Tuple (RawPtr ∷ P E ∷ [])).own_val pair (u ∷ [])))
        ⊛ some (λ (_ : (Unit {0} × (Unit {0} × Unit {0})) × Unit {0}). ‵ (fsep (fsep ftrue (fsep ftrue ftrue)) ftrue) ⊛ (raw (fact 𝓤 (pair.1 ≡ owner.alloc)) ⊛ Owned pair.0))))) (id⊢ 𝓤 _) $
        await ! tt $ pick ! (λ pair. split ! $ move ! (1 ∷ []) $ pick ! (λ _. split3 ! $ drop ! $ heard ! (pair.1 ≡ owner.alloc) (λ same.
        in_a_block ! pair.0 (λ p. box_owns (token E.al owner.alloc) (R E) p owner.value) (fst∗ 𝓤 (never 𝓤) (sem 𝓛 (token E.al owner.alloc (bare (τ E)) null_ptr))) (λ b' o' position.
        move ! (1 ∷ []) $ split ! $ move ! (1 ∷ []) $ pair_is_word E ! pair u (λ hw both fits'.
        rewrite ! 0 (λ (a : E.al.row.Denot). ‵ (handle E a hw)) same refl $
        let made : Made.Denot = record { at = block_ptr b' o'; alloc = owner.alloc; value = owner.value } in
        let as_box : D E = record { ptr = block_ptr b' o'; alloc = owner.alloc; value = owner.value } in
        lands_as ! (ap only (both ∙ ap (λ (p : Ptr). vstruct (of_list (ptr_val p ∷ hw ∷ [])) ∷ []) position)) refl (box_typed E hw b' o' fits') $
        sets ! (of_opd ! (get_in ! (fld ! refl (stop !)) (sub ! 0 refl (whole !)))) refl (tt, tt) $
        sets ! (of_opd ! (get_in ! (fld ! refl (stop !)) (sub ! 1 refl (whole !)))) refl fits' $
        sets ! (of_opd ! (get ! refl)) refl fits' $
        sets ! (agg ! (and_then ! (get ! refl) (and_then ! (get ! refl) (no_more !)))) refl (box_typed E hw b' o' fits') $
        returns ! (look_at ! 0 refl) $ free_all ! refl $
        -- [the allocator; the tokens; the value with the right to free its block]
        move ! (2 ∷ []) $ fsplit ! $ box_in E ! as_box b' o' owner.value refl refl $
        use1 𝓛 (‵ (Made.own_val made (word E hw b' o' ∷ []))) (id⊢ 𝓤 _) $
        suffices ! _ (ends_at 𝓛 ends goes clauses z (word E hw b' o') made ((tt, (tt, tt)), tt) (tt, tt)) $ says ! refl $
        nothing ! $ nothing ! $ fjoin ! $ join ! $ move ! (1 ∷ 0 ∷ []) $ join ! $ done !))))))))))

pub of_spec : {M : Type 1} → stated.statement M
unfolding tables_of
of_spec 𝓤 𝓛 𝓜 𝓡 wired X Z LX LZ g d dd drops allocator md glue =
    let E : Bx = record { row = X; laws = LX; al = record { row = Z; laws = LZ; g = g; d = d; drops = dd } } in
    let 𝓣 : Tables 𝓤 𝓛.H = tables_of 𝓤 𝓛.H 𝓜 (tables 𝓤 𝓛.H 𝓜 𝓡 𝓡.env) in
    entered 𝓤 𝓛.H (triple_of 𝓛 (ends E drops).signature (f.spec X Z g d dd drops 𝓛 𝓜.mem 𝓡.returns)) 𝓣.C 𝓣.Λ (#self (at_types E drops)) (body E drops) (code.unfolded 𝓤 𝓛.H 𝓜 𝓡 wired (X, (Z, tt)) d dd drops)
    (walk_Meets 𝓛 (ends E drops) (goes E drops) (Goes-blank 𝓛 2 (plain (λ _. B E)) no (λ κs x s. tt), tt) (clauses E drops 𝓛 𝓜.mem 𝓡.returns 𝓣) (WpFn 𝓤 𝓛.H 𝓣.C 𝓣.Λ (body E drops)) (WpFn-mono 𝓤 𝓛.H 𝓛.laws 𝓣 (body E drops))
    (walk E drops 𝓛 𝓜.mem 𝓡.returns 𝓣 (callee_met.met 𝓤 𝓛 𝓜 𝓡 (code.calls-std_alloc::boxed::Box::into_raw_with_allocator 𝓡.env wired) X Z LX LZ g d dd drops allocator md glue)))
