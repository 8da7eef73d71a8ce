use Rattle.vers_rank.proofs.Names.{sym, subst, held_in}
use Rattle.vers_rank.proofs.BytePositions.{IsPosition, position_found}
use Rattle.vers_rank.proofs.word.position_in_byte.Goals as goal

pub returns : goal.returns
unfolding held_in
returns c =
    let found = subst (IsPosition c.args.word c.args.r) (sym c.position_at.ensures) (position_found c.args.word c.args.r c.requires) in
    record { within = found.0; from = found.1; to = found.2 }
