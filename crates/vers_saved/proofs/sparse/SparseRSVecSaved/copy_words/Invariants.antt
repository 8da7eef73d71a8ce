use Rattle.vers_saved.proofs.Names.{◌≡◌, ◌+◌, ◌<◌, ℕ, length, slice_index}
use Rattle.vers_saved.specs.Format.{sparse_words}
use Rattle.vers_saved.proofs.sparse.SparseRSVecSaved.copy_words.Given as goal

-- the words so far were copied
abbrev pub invariant-loop-k : goal.invariant-loop-k
invariant-loop-k g l = record {
  len : length l.out ≡ length l.initial.out;
  copied : (j : ℕ) → j < l.k → slice_index l.out j ≡ slice_index (sparse_words l.self) (l.from + j);
}
