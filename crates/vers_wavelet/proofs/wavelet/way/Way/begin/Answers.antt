use Rattle.vers_wavelet.proofs.Names.{◌+◌, ◌-◌, length, arith}
use Rattle.vers_wavelet.proofs.Ways.{node_all}
use Rattle.vers_wavelet.proofs.wavelet.way.Way.begin.Goals as goal

pub returns-then-has_element : goal.returns-then-has_element
returns-then-has_element g c = record {
  level = omega arith;
  node = c.requires.way.each _ _ (omega (arith, c.requires.few));
  from = (c.has_element.ensures.0 c.if-has_element.true).0;
  inside = (c.has_element.ensures.0 c.if-has_element.true).1;
}

pub returns : goal.returns
returns g c = record { level = omega arith; node = node_all c.args.levels.now c.args.len c.requires.few; from = omega arith; inside = omega arith }

pub has_element-requires : goal.has_element-requires
has_element-requires g c = (c.requires.way.each (length c.args.levels.now - (c.loop-j.j + 1)) _ (omega (arith, c.requires.few))).order
