use Rattle.vers_saved.proofs.Names.{◌≡◌, length, ap, arith, pack}
use Rattle.std.proofs.lemmas.Result.{IfOk-at_ok}
use Rattle.vers_saved.proofs.LimbLists.{length-pack}
use Rattle.vers_saved.proofs.form.first_bits.Goals as goal

pub overflow_sub-past : goal.overflow_sub-past
overflow_sub-past g c =
    let made : c.unwrap-bits.result ≡ pack c.args.words.items 64 = IfOk-at_ok (λ v. v ≡ pack c.args.words.items 64) c.unwrap-bits.ensures c.from_vec.ensures.made in
    omega (arith, c.len.ensures.value, ap length made, length-pack c.args.words.items, c.requires.counted)
