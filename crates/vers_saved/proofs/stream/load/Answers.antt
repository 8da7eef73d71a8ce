use Rattle.vers_saved.proofs.Names.{true, refl, Some, saved, ◌≡◌, ◌∙◌, sym, ap, rules, count_in, first_count, words_in}
use Rattle.vers_saved.proofs.Versions.{latest, latest_form, first_form, first_version}
use Rattle.vers_saved.proofs.stream.load.Goals as goal

pub returns-in_err-version-clause-back : goal.returns-in_err-version-clause-back
returns-in_err-version-clause-back g c = λ x whole fits e.
    let kind = g.S.Saved.kind in
    let form = latest_form kind (g.S.Saved.count x) (g.S.Saved.width x) (g.S.Saved.words x) (saved g.S.Saved.kind.version g.S.Saved.kind.number (g.S.Saved.count x) (g.S.Saved.width x) (g.S.Saved.words x)) whole refl in
    search (rules, (rw c.kind.ensures at c.in_err-version.ensures.back) kind.version (g.S.Saved.count x) (g.S.Saved.width x) (g.S.Saved.words x) form.0 form.1 (e ∙ ap Some form.2))

pub returns-in_err-version-clause-first : goal.returns-in_err-version-clause-first
returns-in_err-version-clause-first g c = λ x levels whole fits e.
    let form = first_form g.S.Saved.kind (first_count g.S.Saved.kind (g.S.Saved.count x) (g.S.Loaded.packed x)) (g.S.Saved.width x) (g.S.Loaded.packed x) (saved 1 g.S.Saved.kind.number (first_count g.S.Saved.kind (g.S.Saved.count x) (g.S.Loaded.packed x)) (g.S.Saved.width x) (g.S.Loaded.packed x)) levels whole refl in
    search (rules, (rw c.kind.ensures at c.in_err-version.ensures.back) 1 (first_count g.S.Saved.kind (g.S.Saved.count x) (g.S.Loaded.packed x)) (g.S.Saved.width x) (g.S.Loaded.packed x) form.0 form.1 (e ∙ ap Some form.2))

pub returns-clause-back : goal.returns-clause-back
returns-clause-back g c = λ x whole fits e.
    let kind = g.S.Saved.kind in
    let v = c.in_ok-list_of.field-0 in
    let form = latest_form kind (g.S.Saved.count x) (g.S.Saved.width x) (g.S.Saved.words x) (saved g.S.Saved.kind.version g.S.Saved.kind.number (g.S.Saved.count x) (g.S.Saved.width x) (g.S.Saved.words x)) whole refl in
    let one = (rw c.kind.ensures at c.in_ok-version.ensures.back) kind.version (g.S.Saved.count x) (g.S.Saved.width x) (g.S.Saved.words x) form.0 form.1 (e ∙ ap Some form.2) in
    let m = c.in_ok-list_of.ensures in
    let now = latest kind (g.S.Saved.count v) (g.S.Saved.words v) (g.S.Loaded.packed v) in
    let count = sym now.2 ∙ ap (λ n. count_in kind n (g.S.Saved.count v) (g.S.Loaded.packed v)) (sym one.0) ∙ m.0 ∙ one.1 in
    let words = sym now.1 ∙ ap (λ n. words_in kind n (g.S.Saved.words v) (g.S.Loaded.packed v)) (sym one.0) ∙ m.2 ∙ one.3 in
    g.met.S.Loaded.tells v x m.3 fits count (m.1 ∙ one.2) words

pub returns-clause-first : goal.returns-clause-first
returns-clause-first g c = λ x levels whole fits e.
    let kind = g.S.Saved.kind in
    let v = c.in_ok-list_of.field-0 in
    let form = first_form kind (first_count kind (g.S.Saved.count x) (g.S.Loaded.packed x)) (g.S.Saved.width x) (g.S.Loaded.packed x) (saved 1 g.S.Saved.kind.number (first_count g.S.Saved.kind (g.S.Saved.count x) (g.S.Loaded.packed x)) (g.S.Saved.width x) (g.S.Loaded.packed x)) levels whole refl in
    let one = (rw c.kind.ensures at c.in_ok-version.ensures.back) 1 (first_count g.S.Saved.kind (g.S.Saved.count x) (g.S.Loaded.packed x)) (g.S.Saved.width x) (g.S.Loaded.packed x) form.0 form.1 (e ∙ ap Some form.2) in
    let m = c.in_ok-list_of.ensures in
    let now = first_version kind (g.S.Saved.count v) (g.S.Saved.words v) (g.S.Loaded.packed v) levels in
    let count = sym now.2 ∙ ap (λ n. count_in kind n (g.S.Saved.count v) (g.S.Loaded.packed v)) (sym one.0) ∙ m.0 ∙ one.1 in
    let words = sym now.1 ∙ ap (λ n. words_in kind n (g.S.Saved.words v) (g.S.Loaded.packed v)) (sym one.0) ∙ m.2 ∙ one.3 in
    g.met.S.Loaded.first_tells levels v x m.3 fits count (m.1 ∙ one.2) words
