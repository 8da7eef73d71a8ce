use Rattle.std.proofs.Common.{◌≡◌, ℕ, List, Result, Ok, Err, sym, subst, inl, inr}
use Rattle.std.specs.Prelude.{◌⊎◌, Option, IfErr}
use Rattle.std.proofs.lemmas.Result.{IfOk-weaker}
use Rattle.vers_wavelet.specs.Symbols.{Symbols}
use Rattle.text_index.specs.Makers.{IsSymbolWidth}
use Rattle.catalogue.specs.Structures.{Content, SymbolList}
use Rattle.vers_files.specs.declared.texts.TextFault.{TextFault}
use Rattle.vers_files.specs.declared.texts.TextFault.TheVariants.{NoSymbols, OtherWidth, Memory}
use Rattle.vers_files.specs.Forms.{IsFormOf}
use Rattle.vers_files.specs.TextFiles.{HasNoSymbols, IsNoSymbolText}
use Rattle.vers_files.proofs.texts.symbols_of.Goals as goal

-- why what is held is no text is why a file of its form is none
told : {T : Type 0} (r : Result T TextFault) (left : Option (List ℕ)) (held : Content) → IsFormOf left held
    → IfErr r (λ e. (e ≡ Memory) ⊎ ((e ≡ NoSymbols) × HasNoSymbols held)
    ⊎ ((e ≡ OtherWidth) × ((symbols : Symbols) × (held ≡ SymbolList symbols) × (IsSymbolWidth symbols.width → ⊥))))
    → IfErr r (λ e. IsNoSymbolText left e)
told (Ok made) left held form why = tt
told (Err fault) left held form why =
    elim why [
      | inl is ↦ subst (λ (e : TextFault). IsNoSymbolText left e) (sym is) tt
      | inr (inl is) ↦ subst (λ (e : TextFault). IsNoSymbolText left e) (sym is.0) (held, form, is.1)
      | inr (inr is) ↦
          subst (λ (e : TextFault). IsNoSymbolText left e) (sym is.0) (is.1.0, subst (λ (h : Content). IsFormOf left h) is.1.1 form, is.1.2)
    ]

pub returns-in-Ok-clause-loaded : goal.returns-in-Ok-clause-loaded
returns-in-Ok-clause-loaded g c =
    λ left form. IfOk-weaker c.symbols.result _ _ (λ symbols is. subst (λ (h : Content). IsFormOf left h) is (rw c.in-Ok.is at form)) c.symbols.ensures.held

pub returns-in-Ok-clause-refused : goal.returns-in-Ok-clause-refused
returns-in-Ok-clause-refused g c =
    λ left form fault. told c.symbols.result left _ (rw c.in-Ok.is at form) c.symbols.ensures.refused
