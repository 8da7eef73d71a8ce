-- Bits that are gathered in a word.
use Rattle.std.specs.Prelude.{◌^◌, ◌<◌}
use Rattle.vers_sorted.specs.declared.elias_fano.low.Gathered.{Gathered}

-- they leave room in the word, which has no digits past them
pub record IsGathered (gathered : Gathered) : Type 0 where
  pub few : gathered.len < 64
  pub small : gathered.word < 2 ^ gathered.len
