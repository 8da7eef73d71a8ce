-- Forms in the version that they name.
use Rattle.vers_saved.proofs.Names.{if◌then◌else◌, ◌≡◌, ◌≢◌, ℕ, ◌&&◌, Bool, true, false, List, get_or, refl, sym, ap, subst, ◌∙◌, inl, inr, arith, None, eqb, cases_Bool, ne_eqb, eqb-true, words_of, saved, with_sum, Kind, first_failing, head_tests, at_version, count_in, first_count, has_first, packed_kind, version_said, words_in, fault_of, version_fault, IsWhole, VERSION}
use Rattle.std.proofs.Common.{ltb-true}
use Rattle.vers_saved.specs.Kinds.{FormBy, IsForm, IsLoadedWhole, WholeBy}
use Rattle.vers_saved.proofs.Forms.{all_passed}
use Rattle.vers_saved.proofs.WordBytes.{words_of-bytes_of}
use Rattle.vers_saved.proofs.SavedForms.{all_words, all_fit}
use Rattle.vers_saved.proofs.RoundTrips.{AreBounds, no_fault_back, one_form, shape_fits}

-- the kind in a version, by whether it has another form and whether it is the first
abbrev at_by : (b first : Bool) → Kind → Kind
at_by b first kind = if b && first then packed_kind kind else kind

bounds_by : (b first : Bool) (kind : Kind) → AreBounds kind → AreBounds (at_by b first kind)
bounds_by false first kind h = h
bounds_by true false kind h = h
bounds_by true true kind h = (omega arith, h.1, h.2, h.3)

pub bounds_at : (kind : Kind) (version : ℕ) → AreBounds kind → AreBounds (at_version kind version)
bounds_at kind version h = bounds_by (has_first kind) (eqb version VERSION) kind h

number_by : (b first : Bool) (kind : Kind) → (at_by b first kind).number ≡ kind.number
number_by false first kind = refl
number_by true false kind = refl
number_by true true kind = refl

pub number_at : (kind : Kind) (version : ℕ) → (at_version kind version).number ≡ kind.number
number_at kind version = number_by (has_first kind) (eqb version VERSION) kind

-- a form names its version
pub said_version : (kind : Kind) (count width : ℕ) (words bytes : List ℕ) → AreBounds kind → IsWhole kind count width words → bytes ≡ saved kind.version kind.number count width words → version_said bytes ≡ kind.version
unfolding saved with_sum
said_version kind count width words bytes bounds whole is =
    let fits = shape_fits kind count width words bounds whole in
    ap (λ b. get_or (words_of b) 1 0) is
    ∙ ap (λ l. get_or l 1 0) (words_of-bytes_of (all_words kind.version kind.number count width words) (all_fit kind.version kind.number count width words bounds.0 bounds.1 fits.0 fits.1 whole.fit))

-- a head with no fault gives the version
pub head_version : (kind : Kind) (words : List ℕ) → first_failing (head_tests kind words) ≡ None → get_or words 1 0 ≡ kind.version
head_version kind words none = let p = all_passed (head_tests kind words) none in eqb-true _ _ p.1.1.0

-- a form in a version has no fault
pub none_named : (kind : Kind) (version count width : ℕ) (words bytes : List ℕ) → AreBounds kind → version ≡ (at_version kind version).version → IsWhole (at_version kind version) count width words
    → bytes ≡ saved (at_version kind version).version kind.number count width words → (version_said bytes ≡ version) × (fault_of kind bytes ≡ None)
none_named kind version count width words bytes bounds named whole is =
    let used : Kind = at_version kind version in
    let form : bytes ≡ saved used.version used.number count width words = is ∙ ap (λ n. saved used.version n count width words) (sym (number_at kind version)) in
    let said : version_said bytes ≡ version = said_version used count width words bytes (bounds_at kind version bounds) whole form ∙ sym named in
    (said, ap (λ v. version_fault (at_version kind v) bytes) said ∙ no_fault_back used bytes count width words (bounds_at kind version bounds) whole form)

-- a form in the version that it names
pub form_named : (kind used : Kind) (version count width : ℕ) (words bytes : List ℕ) → AreBounds kind → used ≡ at_version kind (version_said bytes) → version ≡ used.version
    → bytes ≡ saved used.version used.number count width words → IsWhole used count width words
    → (bytes ≡ saved (at_version kind version).version kind.number count width words) × IsWhole (at_version kind version) count width words
form_named kind used version count width words bytes bounds is is_version form whole =
    let used_bounds : AreBounds used = subst AreBounds (sym is) (bounds_at kind (version_said bytes) bounds) in
    let said : version_said bytes ≡ version = said_version used count width words bytes used_bounds whole form ∙ sym is_version in
    let same : used ≡ at_version kind version = is ∙ ap (at_version kind) said in
    let number : used.number ≡ kind.number = ap (λ (k : Kind). k.number) is ∙ number_at kind (version_said bytes) in (
      form ∙ ap (λ n. saved used.version n count width words) number ∙ ap (λ (k : Kind). saved k.version kind.number count width words) same,
      subst (λ k. IsWhole k count width words) same whole,
    )

-- what is loaded of a form
form_by : (b first : Bool) (kind : Kind) (count width : ℕ) (words packed bytes : List ℕ)
    → bytes ≡ saved (at_by b first kind).version kind.number (if b && first then first_count kind count packed else count) width (if b && first then packed else words)
    → IsWhole (at_by b first kind) (if b && first then first_count kind count packed else count) width (if b && first then packed else words)
    → FormBy b kind count width words packed bytes × WholeBy b kind count width words packed
form_by false first kind count width words packed bytes form whole = (form, whole)
form_by true false kind count width words packed bytes form whole = (inl (form, whole), inl whole)
form_by true true kind count width words packed bytes form whole = (inr (form, whole), inr whole)

pub form_is : (kind : Kind) (version count width : ℕ) (words packed bytes : List ℕ) → bytes ≡ saved (at_version kind version).version kind.number (count_in kind version count packed) width (words_in kind version words packed)
    → IsWhole (at_version kind version) (count_in kind version count packed) width (words_in kind version words packed) → IsForm kind count width words packed bytes × IsLoadedWhole kind count width words packed
form_is kind version count width words packed bytes form whole = form_by (has_first kind) (eqb version VERSION) kind count width words packed bytes form whole

-- the latest version, and the first
pub latest : (kind : Kind) (count : ℕ) (words packed : List ℕ)
    → (at_version kind kind.version ≡ kind) × (words_in kind kind.version words packed ≡ words) × (count_in kind kind.version count packed ≡ count)
latest kind count words packed = elim (cases_Bool (has_first kind)) [
  | inl later ↦
      let other : eqb kind.version VERSION ≡ false = ne_eqb kind.version VERSION (λ e. absurd (omega (arith, e, ltb-true VERSION kind.version later))) in
      rw (later, other) (refl, refl, refl)
  | inr only ↦ rw only (refl, refl, refl)
]

pub first_version : (kind : Kind) (count : ℕ) (words packed : List ℕ) → has_first kind ≡ true
    → (at_version kind 1 ≡ packed_kind kind) × (words_in kind 1 words packed ≡ packed) × (count_in kind 1 count packed ≡ first_count kind count packed)
first_version kind count words packed later = rw later (refl, refl, refl)

-- a form of the latest version, and one of the first, in the version that it names
pub latest_form : (kind : Kind) (count width : ℕ) (words bytes : List ℕ) → IsWhole kind count width words → bytes ≡ saved kind.version kind.number count width words
    → (kind.version ≡ (at_version kind kind.version).version) × IsWhole (at_version kind kind.version) count width words × (bytes ≡ saved (at_version kind kind.version).version kind.number count width words)
latest_form kind count width words bytes whole form =
    let same = (latest kind count words words).0 in
    (ap (λ (k : Kind). k.version) (sym same), subst (λ k. IsWhole k count width words) (sym same) whole, form ∙ ap (λ (k : Kind). saved k.version kind.number count width words) (sym same))

pub first_form : (kind : Kind) (count width : ℕ) (words bytes : List ℕ) → has_first kind ≡ true → IsWhole (packed_kind kind) count width words → bytes ≡ saved 1 kind.number count width words
    → (1 ≡ (at_version kind 1).version) × IsWhole (at_version kind 1) count width words × (bytes ≡ saved (at_version kind 1).version kind.number count width words)
first_form kind count width words bytes levels whole form =
    let same = (first_version kind count words words levels).0 in
    (ap (λ (k : Kind). k.version) (sym same), subst (λ k. IsWhole k count width words) (sym same) whole, form ∙ ap (λ (k : Kind). saved k.version kind.number count width words) (sym same))

-- one form is of one version, of one shape and the same words
pub one_named : (kind : Kind) (v c w v' c' w' : ℕ) (xs ys bytes : List ℕ) → AreBounds kind → v ≡ (at_version kind v).version → v' ≡ (at_version kind v').version → IsWhole (at_version kind v) c w xs → IsWhole (at_version kind v') c' w' ys
    → bytes ≡ saved (at_version kind v).version kind.number c w xs → bytes ≡ saved (at_version kind v').version kind.number c' w' ys → (v ≡ v') × (c ≡ c') × (w ≡ w') × (xs ≡ ys)
one_named kind v c w v' c' w' xs ys bytes bounds named named' hx hy e f =
    let same : v ≡ v' = sym (none_named kind v c w xs bytes bounds named hx e).0 ∙ (none_named kind v' c' w' ys bytes bounds named' hy f).0 in
    let kinds : at_version kind v' ≡ at_version kind v = ap (at_version kind) (sym same) in
    let number = sym (number_at kind v) in
    let one = one_form (at_version kind v) bytes c w c' w' xs ys (bounds_at kind v bounds) hx (subst (λ k. IsWhole k c' w' ys) kinds hy)
    (e ∙ ap (λ n. saved (at_version kind v).version n c w xs) number)
    (f ∙ ap (λ (k : Kind). saved k.version kind.number c' w' ys) kinds ∙ ap (λ n. saved (at_version kind v).version n c' w' ys) number) in
    (same, one.0, one.1, one.2)

pub chosen : (kind : Kind) (version : ℕ) → has_first kind ≡ true → version ≡ 1 → at_version kind version ≡ packed_kind kind
chosen kind version later is = rw (later, is) refl

pub not_later : (kind : Kind) (version : ℕ) → has_first kind ≡ false → at_version kind version ≡ kind
not_later kind version only = rw only refl

pub not_first : (kind : Kind) (version : ℕ) → version ≢ 1 → at_version kind version ≡ kind
not_first kind version other = elim (cases_Bool (has_first kind)) [
  | inl later ↦ let off : eqb version VERSION ≡ false = ne_eqb version VERSION other in rw (later, off) refl
  | inr only ↦ rw only refl
]

pub ruleset versions = (chosen, not_later, not_first)
