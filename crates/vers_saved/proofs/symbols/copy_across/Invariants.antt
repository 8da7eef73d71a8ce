use Rattle.vers_saved.proofs.Names.{◌≡◌, ◌+◌, ◌*◌, ◌<◌, ℕ, length, get_or, level_words}
use Rattle.vers_saved.proofs.symbols.copy_across.Given as goal

-- the limbs so far were copied, and the position is that of the next
abbrev pub invariant-loop-j : goal.invariant-loop-j
invariant-loop-j g l = record {
  long : length l.out ≡ length l.initial.out;
  copied : (i : ℕ) → i < l.j → get_or l.out i 0 ≡ get_or (level_words l.list.width l.list.items) (l.from + i) 0;
  position : l.position.level * l.limbs + l.position.limb ≡ l.from + l.j;
  within : l.position.limb < l.limbs;
}
