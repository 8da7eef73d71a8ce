use Rattle.vers_words.proofs.Imports.{◌≡◌, ◌<◌, ◌≤◌, ◌^◌, ◌++◌, length, drop, decimal}
use Rattle.vers_words.proofs.reply.append_number.Given as goal

abbrev pub invariant-loop-rest : goal.invariant-loop-rest
invariant-loop-rest g l = record {
  long : length l.digits ≡ 20;
  within : l.start ≤ 20;
  room : length (decimal l.rest) ≤ l.start;
  fits : l.rest < 2 ^ 64;
  text : decimal l.rest ++ drop l.start l.digits ≡ decimal l.number;
}

abbrev pub decreases-loop-rest : goal.decreases-loop-rest
decreases-loop-rest g l = l.rest
