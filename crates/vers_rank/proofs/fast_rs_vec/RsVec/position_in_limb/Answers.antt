use Rattle.vers_rank.proofs.Names.{◌≡◌, ◌+◌, ◌-◌, ◌*◌, refl, arith, sym, limb, held}
use Rattle.vers_rank.proofs.Selects.{position_found}
use Rattle.vers_rank.proofs.fast_rs_vec.RsVec.position_in_limb.Goals as goal

pub returns-clause-value : goal.returns-clause-value
returns-clause-value g c =
    let b = c.args.bit in
    let l = c.args.self.now in
    let k = c.args.at.limb in
    let word : c.limb-word.result ≡ limb l k = rw c.self.view_is at c.limb-word.ensures.value in
    let rest : held b l (64 * k) + c.args.at.rest - held b l (64 * k) ≡ c.args.at.rest = omega arith in
    let position = rw word at c.position_in_word-position.ensures in
    sym (position_found b l _ k c.position_in_word-position.result (held b l (64 * k)) c.requires.some refl (omega arith) position.within (rw rest position.from) (rw rest position.to))
