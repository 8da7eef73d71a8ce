use Rattle.vers_saved.proofs.Names.{◌≡◌, ◌++◌, length, All, limbs}
use Rattle.std.specs.Prelude.{flat_map}
use Rattle.vers_saved.proofs.symbols.levels_of.Given as goal

-- the levels so far, and the words of the others
abbrev pub invariant-loop : goal.invariant-loop
invariant-loop g l = record {
  count : length l.levels.items ≡ l.counter;
  even : All (λ v. length v ≡ l.of.count) l.levels.items;
  words : flat_map limbs l.levels.items ++ l.rest ≡ l.words;
}
