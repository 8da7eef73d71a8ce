use Rattle.std.proofs.Common.{◌≡◌, ◌∙◌, Some, ap, inl, inr, refl}
use Rattle.catalogue.specs.Structures.{DocumentLists, Documents, IndexedText, SortedElements}
use Rattle.catalogue.specs.declared.structure.Kind.TheVariants as kinds
use Rattle.catalogue.proofs.PublicLaws.{of_kind}
use Rattle.vers_saved.specs.declared.fault.LoadError.TheVariants.{Memory}
use Rattle.vers_c.specs.Saves.{IsFormOf}
use Rattle.vers_c.proofs.saves.load.Goals as goal

pub returns-in-Ok-load_text_from_slice-clause-back : goal.returns-in-Ok-load_text_from_slice-clause-back
returns-in-Ok-load_text_from_slice-clause-back c = λ held named.
    let made = c.in-Ok-load_text_from_slice in
    of_kind (λ held. IsFormOf c.args.bytes.now held → IndexedText made.list ≡ held) (Some kinds.Text) held (named ∙ ap Some c.in-Text.is)
    (λ text of. ap IndexedText (made.ensures.back text of.fits of.form))

pub returns-in-Ok-load_from_slice-3-clause-back : goal.returns-in-Ok-load_from_slice-3-clause-back
returns-in-Ok-load_from_slice-3-clause-back c = λ held named.
    let made = c.in-Ok-load_from_slice-3 in
    of_kind (λ held. IsFormOf c.args.bytes.now held → SortedElements made.list ≡ held) (Some kinds.Sorted) held (named ∙ ap Some c.in-Sorted.is)
    (λ elements of. ap SortedElements (elim of.form [
      | inl latest ↦ made.ensures.back elements latest.1 of.fits latest.0
      | inr first ↦ made.ensures.first elements refl first.1 of.fits first.0
    ]))

pub returns-in-Ok-load_from_slice-7-clause-back : goal.returns-in-Ok-load_from_slice-7-clause-back
returns-in-Ok-load_from_slice-7-clause-back c = λ held named.
    let made = c.in-Ok-load_from_slice-7 in
    of_kind (λ held. IsFormOf c.args.bytes.now held → Documents made.list ≡ held) (Some kinds.Postings) held (named ∙ ap Some c.in-Postings.is)
    (λ posted of. ap Documents (made.ensures.back posted of.whole of.fits of.form))

pub returns-in-Ok-load_from_slice-8-clause-back : goal.returns-in-Ok-load_from_slice-8-clause-back
returns-in-Ok-load_from_slice-8-clause-back c = λ held named.
    let made = c.in-Ok-load_from_slice-8 in
    of_kind (λ held. IsFormOf c.args.bytes.now held → DocumentLists made.list ≡ held) (Some kinds.Inverted) held (named ∙ ap Some c.in-Inverted.is)
    (λ index of. ap DocumentLists (made.ensures.back index of.whole of.fits of.form))

pub returns-in-Err-load_from_slice-3-clause-back : goal.returns-in-Err-load_from_slice-3-clause-back
returns-in-Err-load_from_slice-3-clause-back c = λ held named.
    let made = c.in-Err-load_from_slice-3 in
    of_kind (λ held. IsFormOf c.args.bytes.now held → made.error ≡ Memory) (Some kinds.Sorted) held (named ∙ ap Some c.in-Sorted.is)
    (λ elements of. elim of.form [
      | inl latest ↦ made.ensures.back elements latest.1 of.fits latest.0
      | inr first ↦ made.ensures.first elements refl first.1 of.fits first.0
    ])
