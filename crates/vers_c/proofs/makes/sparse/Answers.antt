use Rattle.vers_c.proofs.Names.{Bool, true, length, Result, Ok, Err, IfOk, positions, ones_at, ones_at-same}
use Rattle.std.proofs.Common.{◌≡◌, ℕ, List}
use Rattle.vers_c.proofs.makes.sparse.Goals as goal

made_of : {E : Type 0} (len : ℕ) (ones : List ℕ) (made : Result (List Bool) E) → IfOk made (λ bits. length bits ≡ len) → IfOk made (λ bits. positions true bits ≡ ones)
    → IfOk made (λ bits. bits ≡ ones_at ones len)
made_of len ones (Ok bits) long at = ones_at-same bits len ones long at
made_of len ones (Err e) long at = tt

pub returns : goal.returns
returns c = made_of c.args.len c.args.ones.now c.new.result c.new.ensures.length c.new.ensures.positions
