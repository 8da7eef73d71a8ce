use Rattle.vers_saved.proofs.Names.{◌≡◌, ◌+◌, ◌<◌, ℕ, length, get_or, limbs}
use Rattle.vers_saved.proofs.symbols.copy_level.Given as goal

-- the limbs so far were copied
abbrev pub invariant-loop-j : goal.invariant-loop-j
invariant-loop-j g l = record {
  long : length l.out ≡ length l.initial.out;
  copied : (i : ℕ) → i < l.j → get_or l.out i 0 ≡ get_or (limbs l.level) (l.from + i) 0;
}
