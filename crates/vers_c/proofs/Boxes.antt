-- What a box, a pair and a pointer own by value, each as one machine value.
use Rattle.vers_c.proofs.Names.{Ura, Val, vstruct, of_list, Logic, Goal, Seq, Item, ‵, ◌$◌, move, fsplit, fpick, feq_l, Ptr, RawPtr, block_ptr, ptr_val, Tuple, Fits, handle_tells, Bx, D, P, B, word, handle, box_out, box_in}
use mathlib.Core.Path.{◌≡◌, refl, subst}
use Prim.Native.Nat.{ℕ}
use mathlib.Core.List.{List, [], ◌∷◌, ◌++◌}
use types.Kit.{drop}

module _ (E : Bx) {M : Type 1} {𝓤 : Ura M} {𝓛 : Logic 𝓤} {K : Type 0} {Γ : List (Item 𝓤)} {G : Goal 𝓤 𝓛.H} where
  -- the machine values of a box are one word, of its pointer and its allocator
  pub box_is_word : K → (d : D E) (vs : List Val)
      → ((b o : ℕ) (hv : Val) → d.ptr ≡ block_ptr b o → vs ≡ word E hv b o ∷ [] → Fits E.al hv → Seq K 𝓛 (‵ ((B E).own_val d (word E hv b o ∷ [])) ∷ Γ) G)
      → Seq K 𝓛 (‵ ((B E).own_val d vs) ∷ Γ) G
  box_is_word t d vs next = box_out E t d vs (λ b o hv e ws fits. box_in E t d b o d.value e refl $ next b o hv e ws fits)

  -- a pair of a pointer and an allocator is a struct of both, and owns what the allocator owns
  pub pair_is_word : K → (pair : Ptr × E.al.row.Denot) (u : Val)
      → ((hv : Val) → u ∷ [] ≡ vstruct (of_list (ptr_val pair.0 ∷ hv ∷ [])) ∷ [] → Fits E.al hv → Seq K 𝓛 (‵ (handle E pair.1 hv) ∷ Γ) G)
      → Seq K 𝓛 (‵ ((Tuple (RawPtr ∷ P E ∷ [])).own_val pair (u ∷ [])) ∷ Γ) G
  pair_is_word t pair u next = fpick t (λ vss. fsplit t $ feq_l t (λ both. fsplit t $ feq_l t (λ pointer. fsplit t $ handle_tells E.al t pair.1 vss.1.0 (λ hv alloc fits. move t (1 ∷ []) $ drop t $
      next hv
      (subst (λ (ws : List Val). u ∷ [] ≡ vstruct (of_list (ptr_val pair.0 ∷ (ws ++ []))) ∷ []) alloc
      (subst (λ (ps : List Val). u ∷ [] ≡ vstruct (of_list (ps ++ (vss.1.0 ++ []))) ∷ []) pointer both)) fits))))
