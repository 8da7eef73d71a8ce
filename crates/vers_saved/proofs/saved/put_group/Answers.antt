use Rattle.vers_saved.proofs.Names.{arith, ◌≡◌, ◌+◌, ◌*◌, ◌++◌, length, take, drop, ap, ◌∙◌, fold, vec_len, length-take-le, bytes_of, mix}
use Rattle.vers_saved.proofs.Copies.{copied}
use Rattle.vers_saved.proofs.saved.put_group.Goals as goal

pub returns : goal.returns
returns g c =
    let long : length c.copy_prepared.new.out ≡ c.args.n = c.copy_prepared.auto.out ∙ length-take-le c.args.n _ c.requires.few in
    let same : c.copy_prepared.new.out ≡ take c.args.n (drop c.args.from (g.S.Saved.words c.args.list.now)) =
    copied (g.S.Saved.words c.args.list.now) c.copy_prepared.new.out c.args.from c.args.n long c.requires.within
    (λ j h. c.copy_prepared.ensures j (omega (arith, h, long, c.copy_prepared.auto.out))) in
    let put = c.put_words.ensures in
    record {
      items = put.items ∙ ap (λ l. c.args.out.now.items ++ bytes_of l) same;
      len = put.len ∙ ap (λ m. vec_len c.args.out.now + 8 * m) long;
      capacity = put.capacity;
      sum = put.sum ∙ ap (fold mix c.args.sum) same;
    }
