use Rattle.vers_cli.proofs.Names.{◌≡◌, Ok, Err, Result, IfOk, MatchResult, is_ok}
use Rattle.vers_cli.proofs.Digits.{odd_digits}
use Rattle.vers_cli.proofs.bits.bit_vec.Goals as goal

-- the value that another error goes with
IfOk-same_value : {T D E : Type 0} (r : Result T D) (s : Result T E) (P : T → Type 0) (Q : D → Type 0) → MatchResult r (λ x. s ≡ Ok x) Q → is_ok s ≡ is_ok r → IfOk r P → IfOk s P
IfOk-same_value (Ok x) s P Q same variant p = rw same p
IfOk-same_value (Err e) (Ok x) P Q same variant p = cc
IfOk-same_value (Err e) (Err d) P Q same variant p = tt

pub returns : goal.returns
returns g c =
    IfOk-same_value c.from_bits.result c.map_err.result _ _ c.map_err.ensures.cases c.map_err.ensures.variant
    (rw (odd_digits c.args.digits.now c.requires.digits) at c.from_bits.ensures.made)
