use Rattle.vers_words.proofs.Imports.{arith}
use Rattle.vers_words.proofs.Written.{gone_on-end, gone_on-next, pattern_text-cons, pattern_text-nil}
use Rattle.vers_words.proofs.patterns.append_pattern.Goals as goal

pub returns-in_default : goal.returns-in_default
returns-in_default g c = pattern_text-nil _ _ c.in_default.ensures.cases

pub loop-symbol-init : goal.loop-symbol-init
loop-symbol-init g c = grind (arith, pattern_text-cons)

pub loop-symbol-preserved : goal.loop-symbol-preserved
loop-symbol-preserved g c = grind (arith, gone_on-next)

pub returns : goal.returns
returns g c = grind (arith, gone_on-end)
