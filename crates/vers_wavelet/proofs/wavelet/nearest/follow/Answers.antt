use Rattle.vers_wavelet.proofs.Names.{rank_reads, ◌*◌, arith, length}
use Rattle.vers_wavelet.proofs.Steps.{narrowed_all}
use Rattle.vers_wavelet.proofs.Trails.{follows_none}
use Rattle.vers_wavelet.proofs.Walks.{adds_no_times, adds_fewer, adds_level, narrowed_ended}
use Rattle.vers_wavelet.proofs.wavelet.nearest.follow.Goals as goal

pub loop-k-init : goal.loop-k-init
loop-k-init g c = record {
  follows = follows_none c.args.is_up c.args.levels.now c.args.len (g.D.Digits.number c.args.symbol.now) c.args.start c.args.end c.requires.order c.requires.within;
  adds = adds_no_times _ 0 rank_reads;
}

pub loop-k-preserved : goal.loop-k-preserved
loop-k-preserved g c = grind (arith, adds_level)

pub returns : goal.returns
returns g c = record {
  order = c.loop-k.invariant.follows.order;
  kept = (narrowed_all (omega arith) c.loop-k.invariant.follows.narrowed).2;
  less = (narrowed_all (omega arith) c.loop-k.invariant.follows.narrowed).0;
  leaves = c.loop-k.invariant.follows.leaves;
  adds = adds_fewer (2 * c.loop-k.k) (2 * length c.args.levels.now) (omega arith) c.loop-k.invariant.adds;
}

pub follow_level-trail-requires : goal.follow_level-trail-requires
follow_level-trail-requires g c = record {
  levels = c.requires.levels;
  inside = c.loop-k-test.true;
  wide = c.requires.wide;
  order = c.loop-k.invariant.follows.order;
  within = c.loop-k.invariant.follows.within;
  few = omega (arith, c.loop-k.invariant.follows.few);
}

pub returns-then-trail : goal.returns-then-trail
returns-then-trail g c = record {
  order = c.loop-k.invariant.follows.order;
  kept = (narrowed_ended c.if-trail.true c.loop-k.invariant.follows.narrowed).1;
  less = (narrowed_ended c.if-trail.true c.loop-k.invariant.follows.narrowed).0;
  leaves = c.loop-k.invariant.follows.leaves;
  adds = adds_fewer (2 * c.loop-k.k) (2 * length c.args.levels.now) (omega arith) c.loop-k.invariant.adds;
}
