use Rattle.std.proofs.Common.{◌≡◌, ◌∙◌, ◌⊎◌, Some, ap}
use Rattle.catalogue.proofs.PublicLaws.{of_kind}
use Rattle.catalogue.specs.Structures.{Documents, DocumentLists, Fits, HasForm, SortedElements, SparseBits, SymbolList, saved_form}
use Rattle.catalogue.specs.declared.structure.Kind.TheVariants as kind
use Rattle.vers_saved.specs.declared.fault.LoadError.TheVariants.{Memory, Read}
use Rattle.vers_files.proofs.loading.load_kind.Goals as goal

pub returns-in-Ok-clause-back : goal.returns-in-Ok-clause-back
returns-in-Ok-clause-back g c = λ x of_file whole fits is form.
    let made = c.in-Ok in
    of_kind (λ x. HasForm x → Fits x → g.R.Read.remaining c.args.reader.now ≡ Some (saved_form x) → SortedElements made.list ≡ x) (Some kind.Sorted) x (is ∙ ap Some c.in-Sorted.is)
    (λ elements whole fits form. ap SortedElements (made.ensures.back elements whole fits form)) whole fits form

pub returns-in-Err-clause-back : goal.returns-in-Err-clause-back
returns-in-Err-clause-back g c = λ x of_file whole fits is form.
    let made = c.in-Err in
    of_kind (λ x. HasForm x → Fits x → g.R.Read.remaining c.args.reader.now ≡ Some (saved_form x) → (made.fault ≡ Read) ⊎ (made.fault ≡ Memory)) (Some kind.Sorted) x (is ∙ ap Some c.in-Sorted.is)
    made.ensures.back whole fits form

pub returns-in-Ok-load_list-clause-back : goal.returns-in-Ok-load_list-clause-back
returns-in-Ok-load_list-clause-back g c = λ x of_file whole fits is form.
    let made = c.in-Ok-load_list in
    of_kind (λ x. HasForm x → Fits x → g.R.Read.remaining c.args.reader.now ≡ Some (saved_form x) → SymbolList made.list ≡ x) (Some kind.Symbols) x (is ∙ ap Some c.in-Symbols.is)
    (λ symbols whole fits form. ap SymbolList (made.ensures.back symbols whole fits form)) whole fits form

pub returns-in-Ok-load_list-2-clause-back : goal.returns-in-Ok-load_list-2-clause-back
returns-in-Ok-load_list-2-clause-back g c = λ x of_file whole fits is form.
    let made = c.in-Ok-load_list-2 in
    of_kind (λ x. HasForm x → Fits x → g.R.Read.remaining c.args.reader.now ≡ Some (saved_form x) → SparseBits made.list ≡ x) (Some kind.Sparse) x (is ∙ ap Some c.in-Sparse.is)
    (λ bits whole fits form. ap SparseBits (made.ensures.back bits whole fits form)) whole fits form

pub returns-in-Ok-load_list-4-clause-back : goal.returns-in-Ok-load_list-4-clause-back
returns-in-Ok-load_list-4-clause-back g c = λ x of_file whole fits is form.
    let made = c.in-Ok-load_list-4 in
    of_kind (λ x. HasForm x → Fits x → g.R.Read.remaining c.args.reader.now ≡ Some (saved_form x) → Documents made.list ≡ x) (Some kind.Postings) x (is ∙ ap Some c.in-Postings.is)
    (λ posted whole fits form. ap Documents (made.ensures.back posted whole fits form)) whole fits form

pub returns-in-Ok-load_list-5-clause-back : goal.returns-in-Ok-load_list-5-clause-back
returns-in-Ok-load_list-5-clause-back g c = λ x of_file whole fits is form.
    let made = c.in-Ok-load_list-5 in
    of_kind (λ x. HasForm x → Fits x → g.R.Read.remaining c.args.reader.now ≡ Some (saved_form x) → DocumentLists made.list ≡ x) (Some kind.Inverted) x (is ∙ ap Some c.in-Inverted.is)
    (λ index whole fits form. ap DocumentLists (made.ensures.back index whole fits form)) whole fits form

pub returns-in-Err-load_list-5-clause-back : goal.returns-in-Err-load_list-5-clause-back
returns-in-Err-load_list-5-clause-back g c = λ x of_file whole fits is form.
    let made = c.in-Err-load_list-5 in
    of_kind (λ x. HasForm x → Fits x → g.R.Read.remaining c.args.reader.now ≡ Some (saved_form x) → (made.fault ≡ Read) ⊎ (made.fault ≡ Memory)) (Some kind.Inverted) x (is ∙ ap Some c.in-Inverted.is)
    made.ensures.back whole fits form
