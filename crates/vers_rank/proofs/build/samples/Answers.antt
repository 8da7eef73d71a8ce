use Rattle.vers_rank.proofs.Names.{◌≡◌, length, ap, arith, count_none, zero-le}
use Rattle.vers_rank.proofs.Builds.{add_sample}
use Rattle.vers_rank.proofs.build.samples.Goals as goal

pub loop-j-init : goal.loop-j-init
loop-j-init g c = record {
  made = record { counted = ap length c.in_ok-made.ensures.items; each = λ j h. absurd (omega (arith, h)) };
  inside = zero-le;
  low = omega (arith, count_none);
}

pub returns : goal.returns
returns g c = let all : c.loop-j.j ≡ c.args.n = omega arith in rw all at c.loop-j.invariant.made

pub loop-j-preserved : goal.loop-j-preserved
loop-j-preserved g c = record {
  made = add_sample c.next_sample-s.result c.loop-j.invariant.made c.next_sample-s.ensures c.in_ok-push.ensures.items;
  inside = c.next_sample-s.ensures.inside;
  low = omega (arith, c.next_sample-s.ensures.low);
}
