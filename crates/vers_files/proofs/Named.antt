-- The kinds that saved forms name.
use Rattle.std.proofs.Common.{◌≡◌, ◌∙◌, ℕ, ap, subst}
use Rattle.std.specs.Prelude.{Option, None, Some, slice_get, unwrap_or}
use Rattle.catalogue.proofs.PublicLaws.{number_is_code, of_kind}
use Rattle.catalogue.specs.Structures.{Content, HasForm, HasFormAs, form_of, kind_of, saved_form}
use Rattle.catalogue.specs.declared.structure.Kind.{Kind}
use Rattle.catalogue.specs.declared.structure.Kind.TheVariants as kind
use Rattle.catalogue.specs.declared.structure.TheConstants.{KINDS}
use Rattle.vers_files.specs.Forms.{IsOfFile, number_of_kind}

-- a list of a file is of the kind that its saved form names
pub kind_is : (x : Content) → IsOfFile x → HasForm x → (number : ℕ) → number_of_kind (saved_form x) ≡ number → kind_of x ≡ slice_get KINDS number
kind_is x of_file whole number named =
    number_is_code x whole
    (λ is. of_kind (λ y. IsOfFile y → ⊥) (Some kind.Growing) x is (λ bits none. none) of_file)
    (λ is. of_kind (λ y. IsOfFile y → ⊥) (Some kind.Binary) x is (λ values none. none) of_file)
    ∙ ap (slice_get KINDS) named

-- a structure with a saved form has a kind, whatever another would be taken for
pub some_kind : (x : Content) (found : Option Kind) (other : Kind) → HasForm x → kind_of x ≡ found → kind_of x ≡ Some (unwrap_or found other)
some_kind x None other whole is = absurd (subst (λ kind. HasFormAs kind (form_of x)) is whole)
some_kind x (Some kind) other whole is = is
