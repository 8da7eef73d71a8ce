use Rattle.vers_rmq.proofs.Names.{◌≡◌, ◌+◌, ◌-◌, arith}
use Rattle.vers_rmq.proofs.Masks.{suffix_start}
use Rattle.vers_rmq.proofs.rmq.fast_rmq.mask.part_suffixes.Goals as goal

pub returns : goal.returns
returns c =
    let end : c.args.to - 1 + 1 ≡ c.args.to = omega arith in
    c.more_suffixes.ensures c.args.to (rw end at (suffix_start c.args.items.now c.args.start (c.args.to - 1) c.one_at.result (omega arith) c.one_at.ensures))
