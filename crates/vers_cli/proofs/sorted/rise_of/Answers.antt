use Rattle.vers_cli.proofs.Names.{refl, sym, ◌∙◌, words_in, all_numbers, in_order}
use Rattle.vers_cli.proofs.Rises.{rise_after-next, told, not_told}
use Rattle.vers_cli.proofs.sorted.rise_of.Goals as goal

pub returns-in_err-last-clause-none : goal.returns-in_err-last-clause-none
returns-in_err-last-clause-none c =
    λ none numbers at.
    not_told (in_order c.args.strictly) (all_numbers (words_in c.args.arguments.now)) numbers
    (c.loop-word.invariant.after ∙ rw (c.in-Some.ensures.words, ← c.number.ensures, c.in_err-last.was) refl) at

pub returns-then-not-admits-clause-none : goal.returns-then-not-admits-clause-none
returns-then-not-admits-clause-none c =
    λ none numbers at.
    not_told (in_order c.args.strictly) (all_numbers (words_in c.args.arguments.now)) numbers
    (c.loop-word.invariant.after ∙ rw (c.in-Some.ensures.words, ← c.number.ensures, c.in_ok-last.was)
    (rise_after-next (in_order c.args.strictly) c.loop-word.rise.len c.loop-word.rise.last c.in_ok-last.last (all_numbers (words_in c.in-Some.others.now)) _ (sym c.if-not-admits.ensures))) at

pub returns : goal.returns
returns c =
    let rise = told (in_order c.args.strictly) (words_in c.args.arguments.now) _ (c.loop-word.rise.len, c.loop-word.rise.last) refl
    (c.loop-word.invariant.after ∙ rw c.in_default.ensures.words refl) in
    record {
      none = λ none numbers at. cc;
      all = rise.0;
      order = rise.1.0;
      len = rise.1.1;
      last = rise.1.2;
    }
