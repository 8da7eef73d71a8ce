use Rattle.vers_sorted.proofs.Names.{◌^◌, arith, mod_below, pow_pos}
use Rattle.vers_sorted.proofs.Gathers.{low_digits, stays_small, goes_on}
use Rattle.vers_sorted.proofs.elias_fano.low.add_part.Goals as goal

pub returns-then-len-lt64-clause-gathered : goal.returns-then-len-lt64-clause-gathered
returns-then-len-lt64-clause-gathered g c = record {
  few = omega arith;
  small = rw (low_digits c.args.number c.args.width c.requires.narrow) (stays_small _ _ _ _ c.requires.gathered.small (mod_below _ (2 ^ c.args.width) (pow_pos c.args.width)) (omega arith));
}

pub returns-clause-gathered : goal.returns-clause-gathered
returns-clause-gathered g c = record {
  few = omega (arith, c.requires.gathered.few);
  small = rw (low_digits c.args.number c.args.width c.requires.narrow) (goes_on _ _ _ (mod_below _ (2 ^ c.args.width) (pow_pos c.args.width)) c.requires.gathered.few (omega arith));
}
