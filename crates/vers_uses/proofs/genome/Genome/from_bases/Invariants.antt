use Rattle.std.proofs.Common.{◌≡◌, map, take}
use Rattle.vers_uses.specs.Genome.{is_gc}
use Rattle.vers_uses.proofs.genome.Genome.from_bases.Given as goal

abbrev pub invariant-loop-base : goal.invariant-loop-base
invariant-loop-base g l = l.bits ≡ map is_gc (take l.base-index l.bases)
