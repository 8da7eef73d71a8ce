use Rattle.wavelet_tree.proofs.Names.{◌+◌, cond, ltb, LEAVES}
use Rattle.wavelet_tree.proofs.read.+read_tree.Given as goal

-- a fork's links to forks lead down
abbrev pub decreases-read_tree : goal.decreases-read_tree
decreases-read_tree g l = cond (ltb l.link LEAVES) (l.link + 1) 0
