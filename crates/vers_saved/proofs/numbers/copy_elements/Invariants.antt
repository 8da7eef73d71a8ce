use Rattle.vers_saved.proofs.Names.{◌≡◌, ◌+◌, ◌<◌, ◌++◌, ℕ, length, drop, slice_index}
use Rattle.vers_saved.proofs.numbers.copy_elements.Given as goal

-- the words so far were copied, and the walk is before the next one
abbrev pub invariant-loop-k : goal.invariant-loop-k
invariant-loop-k g l = record {
  len : length l.out ≡ length l.initial.out;
  copied : (j : ℕ) → j < l.k → slice_index l.out j ≡ slice_index (l.fn.elements.left ++ l.others) (l.from + j);
  left : l.elements.left ≡ drop (l.from + l.k) l.fn.elements.left;
}
