-- What is said of what was loaded is said of it in a box.
use Rattle.std.proofs.Common.{◌≡◌, Result, Ok, Err, sym, subst}
use Rattle.std.specs.Prelude.{IfOk, IfErr, MatchResult}
use Rattle.vers_saved.specs.declared.fault.LoadError.{LoadError}
use Rattle.vers_saved.specs.declared.fault.LoadError.TheVariants.{Memory}

pub in_box : {V B : Type 0} (r : Result V LoadError) (b : Result B LoadError) (value : B → V) (boxed : B) (P : V → Type 0) → b ≡ Ok boxed
    → MatchResult r (λ v. MatchResult b (λ x. value x ≡ v) (λ e. e ≡ Memory)) (λ fault. b ≡ Err fault) → IfOk r P → P (value boxed)
in_box (Ok v) b value boxed P is told p =
    let same : value boxed ≡ v = rw is at told in
    subst P (sym same) p
in_box (Err fault) b value boxed P is told p = cc

pub in_no_box : {V B : Type 0} (r : Result V LoadError) (b : Result B LoadError) (value : B → V) (e : LoadError) (P : LoadError → Type 0) → b ≡ Err e
    → MatchResult r (λ v. MatchResult b (λ x. value x ≡ v) (λ e. e ≡ Memory)) (λ fault. b ≡ Err fault) → IfOk r (λ _. P Memory) → IfErr r P → P e
in_no_box (Ok v) b value e P is told memory refused =
    let same : e ≡ Memory = rw is at told in
    subst P (sym same) memory
in_no_box (Err fault) b value e P is told memory refused =
    let same : fault ≡ e = cc in
    subst P same refused
