-- `vacant` makes a null pointer, which owns nothing.
use Rattle.vers_c.proofs.Names.{false, lit<, Ura, Val, vnull, vstruct, vcons, vnil, has_ty, SProp, ent, emp, id⊢, ftrue, fsep, Memory, Routine, WpFn, Tables, Logic, Fun, tables, tables_of, WpFn-mono, Item, ‵, raw, ◌⊛◌, ◌$◌, ◌∵◌, !, qed, by, move, use1, join, split, fsplit, fjoin, fpack, feq_i, suffices, done, agg, lit, no_more, and_then, returns, enter, alloc_all, pass_all, free_all, look_at, get, sets, yes, plain, Valss, RawPtr, null_ptr, nothing, within, shape, triple_of, entered, says, Stays, stay_dropped, walk_of, ends_at, Goes-dropped, walk_Meets, handle_tells, α, and_tt, P, owning}
use Rattle.std.proofs.Common.{refl, sym, subst, []}
use mathlib.Core.List.{List, ◌∷◌, ◌++◌}
use types.Kit.{drop}
use Rattle.vers_c.proofs.OwnerBoxes.{E}
use Rattle.std.specs.contracts.alloc.Global as Heap
use Rattle.vers_c.specs.contracts.held.Held as Held
use Rattle.catalogue.specs.declared.structure.Structure.TheVariants.{Growing}
use Rattle.vers_c.specs.declared.kept.Kept.TheVariants.{Other}
use Rattle.vers_c.specs.contracts.held.Held.vacant as F
use Rattle.vers_c.specs.contracts.held.Held.vacant.Key.{name as #self}
use Rattle.vers_c.proofs.held.Held.vacant.Statement as stated
use Rattle.vers_c.proofs.held.Held.vacant.Code as code

abbrev stayed : Stays (F.ended).signature.params (F.ended).kept
stayed = (stay_dropped (plain (λ _. Heap.the_row)) yes, tt)

module _ {M : Type 1} {𝓤 : Ura M} (𝓛 : Logic 𝓤) (at_mem : Memory → SProp 𝓤) (run : Routine → Fun 𝓤) (𝓣 : Tables 𝓤 𝓛.H) where
  open 𝓛 use {H}

  walk : (z : (walk_of 𝓛 F.ended stayed (F.clauses 𝓛 at_mem run)).Ghost)
      → ent 𝓤 ((walk_of 𝓛 F.ended stayed (F.clauses 𝓛 at_mem run)).pre z) (WpFn 𝓤 H 𝓣.C 𝓣.Λ code.function (z.0.4.0 ++ []) ((walk_of 𝓛 F.ended stayed (F.clauses 𝓛 at_mem run)).post z))
  walk z =
      let Post = (walk_of 𝓛 F.ended stayed (F.clauses 𝓛 at_mem run)).post z in
      let a = z.0.3.0 in
      let made : (Held.the_row).Denot = record { at = null_ptr; alloc = a; is_owner = false; value = record { ptr = null_ptr; value = Other (Growing []) } } in
      qed 𝓛 ((‵ ftrue ⊛ ‵ (fsep ((Heap.the_row).own_val a z.0.4.0) ftrue)) ∷ raw (emp 𝓤) ∷ []) ∵ split ! $ drop ! $ fsplit ! $
      handle_tells E.al ! a z.0.4.0 (λ h ws fa. move ! (1 ∷ 2 ∷ []) $ drop ! $ drop ! $
      let w = vstruct (vcons vnull (vcons h vnil)) in
      nothing ! $ nothing ! $ move ! (2 ∷ 0 ∷ []) $ fjoin ! $ feq_i ! (List Val) (vnull ∷ []) (vnull ∷ []) refl $ fjoin ! $ feq_i ! (List Val) (w ∷ []) (w ∷ []) refl $ fjoin ! $
      fpack ! (Valss (RawPtr ∷ P E ∷ [])) (within (shape (owning E)) (null_ptr, (a, tt)) (w ∷ [])) (vnull ∷ [], (h ∷ [], tt)) $ fjoin ! $
      use1 𝓛 (‵ ((Held.the_row).own_val made (w ∷ []))) (id⊢ 𝓤 _) $
      let Γ : List (Item 𝓤) = ‵ ((Held.the_row).own_val made (w ∷ [])) ∷ [] in
      by ! (subst (λ (us : List Val). ent 𝓤 (types.Kit.⋆ 𝓛 Γ) (WpFn 𝓤 H 𝓣.C 𝓣.Λ code.function (us ++ []) Post)) (sym ws)
      (qed 𝓛 Γ ∵ enter ! 𝓣.C 𝓣.Λ code.function (h ∷ []) _ $ alloc_all ! (λ ls. pass_all ! refl (fa, tt) $
      sets ! (agg ! (and_then ! (lit ! tt) (and_then ! (get ! refl) (no_more !)))) refl (and_tt (has_ty (α E.al) h) fa.0, (record { fits = lit< tt }, (fa.1, tt))) $ returns ! (look_at ! 0 refl) $ free_all ! refl $
      suffices ! _ (ends_at 𝓛 F.ended stayed (F.clauses 𝓛 at_mem run) z w made (tt, tt) (tt, tt)) $ says ! refl $
      nothing ! $ nothing ! $ fjoin ! $ join ! $ nothing ! $ join ! $ done !))))

pub vacant_spec : {M : Type 1} → stated.statement M
unfolding tables_of
vacant_spec 𝓤 𝓛 𝓜 𝓡 wired =
    let 𝓣 : Tables 𝓤 𝓛.H = tables_of 𝓤 𝓛.H 𝓜 (tables 𝓤 𝓛.H 𝓜 𝓡 𝓡.env) in
    entered 𝓤 𝓛.H (triple_of 𝓛 F.signature (F.spec 𝓛 𝓜.mem 𝓡.returns)) 𝓣.C 𝓣.Λ #self code.function (code.unfolded 𝓤 𝓛.H 𝓜 𝓡 wired)
    (walk_Meets 𝓛 F.ended stayed (Goes-dropped 𝓛 0 (plain (λ _. Heap.the_row)) yes (λ κs x f. refl), tt) (F.clauses 𝓛 𝓜.mem 𝓡.returns) (WpFn 𝓤 𝓛.H 𝓣.C 𝓣.Λ code.function) (WpFn-mono 𝓤 𝓛.H 𝓛.laws 𝓣 code.function)
    (walk 𝓛 𝓜.mem 𝓡.returns 𝓣))
