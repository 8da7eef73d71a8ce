use Rattle.std.proofs.Common.{◌≡◌, ◌≤◌, ◌+◌, ◌++◌, length}
use Rattle.std.specs.Prelude.{IfOk}
use Rattle.vers_texts.specs.Fasta.{fasta_fault, fasta_text, text_of_lines}
use Rattle.vers_texts.proofs.FastaLines.{lines_left, size_left, wrong_from}
use Rattle.vers_texts.proofs.fasta.fasta_text.Given as goal

abbrev pub invariant-loop-left : goal.invariant-loop-left
invariant-loop-left g l = record {
  text : IfOk l.text (λ text. text.items ++ text_of_lines (lines_left l.left) ≡ fasta_text l.file);
  fault : wrong_from l.is_begun l.number (lines_left l.left) ≡ fasta_fault l.file;
  short : l.number + size_left l.left ≤ length l.file + 2;
}

abbrev pub decreases-loop-left : goal.decreases-loop-left
decreases-loop-left g l = size_left l.left
