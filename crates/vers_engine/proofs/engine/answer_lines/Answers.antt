use Rattle.vers_engine.proofs.Names.{[], refl, inl, err_from_is_err_and}
use Rattle.std.proofs.KnownBytes.{Appends-nil, Consumes-nil}
use Rattle.vers_engine.proofs.engine.answer_lines.Goals as goal

pub returns-in_err-buffer-clause-answers : goal.returns-in_err-buffer-clause-answers
returns-in_err-buffer-clause-answers g c =
    let p = err_from_is_err_and c.from_residual.result c.from_residual.ensures.1 in
    ([], [], [], Consumes-nil _, Appends-nil _, rw (p.1, p.2) (inl refl), rw (p.1, p.2) ([], [], refl, refl))
